-- The worked books A to I in bytes, and the words of their trees (document 01, "Worked books"); then the books that are refused.
use Rattle.std.specs.Prelude.{List, [], ◌∷◌, ℕ, take, set}
use Rattle.worked.specs.Layout.{minus, site, bound_site, constraint, pair, rule, head, book}

abbrev pub argument : List ℕ
argument = site 0 []

abbrev pub const_int : List ℕ
const_int = site 1 []

-- constraints: a site is a ConstInt, or a Variant with so many fields
abbrev pub is_int : ℕ → ℕ → List ℕ
is_int s number = constraint s 0 0 number

abbrev pub is_variant : ℕ → ℕ → ℕ → List ℕ
is_variant s number fields = constraint s 2 fields number

-- unless said: sites 0, 1 Argument, 2 ConstInt
abbrev pub usual_sites : List (List ℕ)
usual_sites = argument ∷ argument ∷ const_int ∷ []

-- A: no sites, no rules
abbrev pub book_A : List ℕ
book_A = book [] []

abbrev pub words_A : List ℕ
words_A = 1 ∷ 0 ∷ []

-- B: sites 0 Argument, 1 and 2 ConstInt; rule 0 priority 10, pos 100, site 0 is Variant 1, result 1; rule 1 pos 200, result 2
abbrev pub sites_B : List (List ℕ)
sites_B = argument ∷ const_int ∷ const_int ∷ []

abbrev pub book_B : List ℕ
book_B = book sites_B (rule 10 100 1 (is_variant 0 1 0 ∷ []) [] ∷ rule 0 200 2 [] [] ∷ [])

abbrev pub words_B : List ℕ
words_B = 20 ∷ 2 ∷ 0 ∷ 0 ∷ 0 ∷ 1 ∷ 2 ∷ 0 ∷ 1 ∷ 6 ∷ 1 ∷ 0 ∷ 3 ∷ 0 ∷ 100 ∷ 1 ∷ 0 ∷ 3 ∷ 1 ∷ 200 ∷ 2 ∷ []

-- C: B with priorities exchanged
abbrev pub book_C : List ℕ
book_C = book sites_B (rule 0 100 1 (is_variant 0 1 0 ∷ []) [] ∷ rule 10 200 2 [] [] ∷ [])

abbrev pub words_C : List ℕ
words_C = 11 ∷ 2 ∷ 0 ∷ 3 ∷ 1 ∷ 200 ∷ 2 ∷ 0 ∷ 3 ∷ 0 ∷ 100 ∷ 1 ∷ []

-- D: pair (1,0), pos 5, result 2
abbrev pub book_D : List ℕ
book_D = book usual_sites (rule 0 5 2 [] (pair 1 0 ∷ []) ∷ [])

abbrev pub words_D : List ℕ
words_D = 12 ∷ 1 ∷ 0 ∷ 1 ∷ 0 ∷ 1 ∷ 6 ∷ 1 ∷ 0 ∷ 3 ∷ 0 ∷ 5 ∷ 2 ∷ []

-- E: sites Argument; 6 of 0; 6 of 1; empty MakeVariant. Site 2 is ConstInt 7, pos 9, result 3
abbrev pub book_E : List ℕ
book_E = book (argument ∷ site 6 (0 ∷ []) ∷ site 6 (1 ∷ []) ∷ site 4 [] ∷ []) (rule 0 9 3 (is_int 2 7 ∷ []) [] ∷ [])

abbrev pub words_E : List ℕ
words_E = 17 ∷ 1 ∷ 2 ∷ 1 ∷ 2 ∷ 0 ∷ 2 ∷ 1 ∷ 0 ∷ 0 ∷ 7 ∷ 6 ∷ 1 ∷ 0 ∷ 3 ∷ 0 ∷ 9 ∷ 3 ∷ []

-- F: rule 0 priority 10, site 0 Variant 1, pos 1; rule 1 site 1 Variant 1, pos 2; results 2
abbrev pub book_F : List ℕ
book_F = book usual_sites (rule 10 1 2 (is_variant 0 1 0 ∷ []) [] ∷ rule 0 2 2 (is_variant 1 1 0 ∷ []) [] ∷ [])

abbrev pub words_F : List ℕ
words_F =
    29 ∷ 2
    ∷ 0 ∷ 0 ∷ 0 ∷ 1 ∷ 2 ∷ 0 ∷ 1 ∷ 6 ∷ 1 ∷ 0 ∷ 3 ∷ 0 ∷ 1 ∷ 2
    ∷ 0 ∷ 0 ∷ 1 ∷ 1 ∷ 2 ∷ 0 ∷ 1 ∷ 6 ∷ 1 ∷ 0 ∷ 3 ∷ 1 ∷ 2 ∷ 2 ∷ []

-- H: ConstInt 85 and -400 on site 0, pos 1 and 2, results 2: arm -400 first, its word 4294966896
abbrev pub book_H : List ℕ
book_H = book usual_sites (rule 0 1 2 (is_int 0 85 ∷ []) [] ∷ rule 0 2 2 (is_int 0 (minus 400) ∷ []) [] ∷ [])

abbrev pub words_H : List ℕ
words_H =
    25 ∷ 1 ∷ 0 ∷ 0 ∷ 0 ∷ 2
    ∷ 0 ∷ 0 ∷ 4294966896 ∷ 6 ∷ 1 ∷ 0 ∷ 3 ∷ 1 ∷ 2 ∷ 2
    ∷ 0 ∷ 0 ∷ 85 ∷ 6 ∷ 1 ∷ 0 ∷ 3 ∷ 0 ∷ 1 ∷ 2 ∷ []

-- I: site 0 constrained and paired with 1
abbrev pub book_I : List ℕ
book_I = book usual_sites (rule 0 1 2 (is_variant 0 1 0 ∷ []) (pair 0 1 ∷ []) ∷ [])

-- PLACES. Site 1 stands at position 0 of Variant 1 of site 0; the rule asks for that Variant with two fields, so that position 1 is empty
abbrev pub sites_placed : List (List ℕ)
sites_placed = argument ∷ bound_site 0 2 0 1 ∷ []

abbrev pub book_placed : List ℕ
book_placed = book sites_placed (rule 0 3 1 (is_variant 0 1 2 ∷ []) [] ∷ [])

abbrev pub words_placed : List ℕ
words_placed = 17 ∷ 1 ∷ 0 ∷ 0 ∷ 0 ∷ 1 ∷ 2 ∷ 2 ∷ 1 ∷ 1 ∷ 65535 ∷ 6 ∷ 1 ∷ 0 ∷ 3 ∷ 0 ∷ 3 ∷ 1 ∷ []

-- REFUSED. 1: no byte; a byte less than a block
abbrev pub book_empty : List ℕ
book_empty = []

abbrev pub book_cut : List ℕ
book_cut = take 511 book_B

-- 2: in B the kind of site 0 is another, and the check as it was
abbrev pub book_changed : List ℕ
book_changed = set book_B 516 1

-- 3: the head names a site, and there is no block of sites; the 512 bytes of B's head
abbrev pub book_short : List ℕ
book_short = head 1 0

abbrev pub book_head : List ℕ
book_head = take 512 book_B

-- 4: a site of kind 8
abbrev pub book_kind_8 : List ℕ
book_kind_8 = book (site 8 [] ∷ []) []

-- 5: byte 10 of a rule is its constraint count; a fifth constraint, read from the zeros behind the fourth, would break no rule
abbrev pub book_count_5 : List ℕ
book_count_5 =
    let four_ints = is_int 1 7 ∷ is_int 2 7 ∷ is_int 3 7 ∷ is_int 4 7 ∷ [] in
    book (argument ∷ argument ∷ argument ∷ argument ∷ argument ∷ []) (set (rule 0 1 2 four_ints []) 10 5 ∷ [])

-- 6: Variant 1 of site 0 with no field and with two
abbrev pub book_two_field_counts : List ℕ
book_two_field_counts = book usual_sites (rule 0 1 2 (is_variant 0 1 0 ∷ []) [] ∷ rule 0 2 2 (is_variant 0 1 2 ∷ []) [] ∷ [])

-- 8: the rule does not constrain the source of its result
abbrev pub book_unbound : List ℕ
book_unbound = book sites_placed (rule 0 3 1 [] [] ∷ [])
