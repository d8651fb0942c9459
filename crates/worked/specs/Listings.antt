-- Listings of worked trees, and the winter book from its bytes to its listing. Each text is what a fitter reads.
use Rattle.std.specs.Prelude.{◌≡◌, refl, List, [], ◌∷◌, ◌++◌, ℕ, negsuc, replicate}
use Prim.Native.String.{String}
use Rattle.definition.specs.Lists.{every}
use Rattle.definition.specs.Accept.{pattern_ok}
use Rattle.definition.specs.Read.{id_ok, read_lets, read_places, read_pattern, read_arm, read_flow, read_tagged, read_step, read_counted, read_framed, read_block}
use Rattle.definition.specs.Listing.{text, digits, decimal, signed_decimal, degrees, field, start, let_line, match_line, equal_line, return_line, kind_text, place_text, arm_line, steps_text, flow_text, arms_text, listing}
use Rattle.definition.specs.Answers.{refused, answered, Outcome, written, listed}
use Rattle.worked.specs.Layout.{minus, rule, book}
use Rattle.worked.specs.Books.{argument, const_int, is_int, is_variant, words_B, words_D, words_E, words_H}
use Rattle.worked.specs.Calls.{plan, reply, fits}
use Rattle.worked.specs.Compute.{computed, computed_is}
use Rattle.worked.specs.Table.{nines}

-- what `list` comes to with every definition open, in a text of n bytes, each 9
unfoldable pub shown : ℕ → List ℕ → Outcome
unfolding every pattern_ok
    id_ok read_lets read_places read_pattern read_arm read_flow read_tagged read_step read_counted read_framed read_block
    digits decimal signed_decimal degrees field start let_line match_line equal_line return_line kind_text place_text arm_line steps_text flow_text arms_text listing
    written listed
shown n ws = listed ws (nines n)

-- the text at the front, its length as the answer, and the two bytes behind it as they were
abbrev pub reads_as : ℕ → String → Outcome
reads_as n t = record { answer = answered n; room = text t ++ nines 2 }

-- THE WINTER FAULT. Rule 0 stops at a board's alarm, rule 1 is the special one on tenths, rule 2 the general one on the board, in falling
-- priority. Rules 0 and 2 ask the same site, and rule 1 still stands between them
abbrev pub book_winter : List ℕ
book_winter =
    book (argument ∷ argument ∷ const_int ∷ const_int ∷ const_int ∷ [])
    (rule 10 1 4 (is_variant 0 9 0 ∷ []) [] ∷ rule 5 2 3 (is_int 1 (minus 400) ∷ []) [] ∷ rule 0 3 2 (is_variant 0 2 0 ∷ []) [] ∷ [])

abbrev pub words_winter : List ℕ
words_winter = 43 ∷ 3 ∷ 0 ∷ 0 ∷ 0 ∷ 1 ∷ 2 ∷ 0 ∷ 9 ∷ 6 ∷ 1 ∷ 0 ∷ 3 ∷ 0 ∷ 1 ∷ 4 ∷ 0 ∷ 0 ∷ 1 ∷ 1 ∷ 0 ∷ 0 ∷ minus 400 ∷ 6 ∷ 1 ∷ 0 ∷ 3 ∷ 1 ∷ 2 ∷ 3 ∷ 0 ∷ 0 ∷ 0 ∷ 1 ∷ 2 ∷ 0 ∷ 2 ∷ 6 ∷ 1 ∷ 0 ∷ 3 ∷ 2 ∷ 3 ∷ 2 ∷ []
