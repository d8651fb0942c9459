-- Planning with bytes read front to back: the outcome of the definition for all bytes, in few enough steps to compute whole books.
-- The definition counts to each byte from the first, so that its cost grows with the square of the length.
use Rattle.std.specs.Prelude.{Bool, true, ◌&&◌, ◌≡◌, refl, List, [], ◌∷◌, ◌++◌, map, ℕ, zero, suc, ◌+◌, ◌-◌, ◌*◌, ◌%◌, ◌^◌, drop, if◌then◌else◌}
use Rattle.std.proofs.Common.{sym, ◌∙◌, ap, arith, get_or-drop, drop-drop}
use Rattle.definition.specs.Lists.{◌is◌, ◌at_most◌, every, upto, all, flat}
use Rattle.definition.specs.Book.{Book, most}
use Rattle.definition.specs.Tables.{book_of, is_zero, zero_from}
use Rattle.definition.specs.Bytes.{byte, le16, le32, records_bytes, block_start, block_count, edition, length_ok, sum_of, right_sum, sum_ok, sums_ok, sites_named, rules_named, blocks_wanted, Frame, frame, framed, frame_ok, frames_ok}
use Rattle.definition.specs.Bytes.{site_fields, constraint_fields, id_field, rule_fields, site_offset, rule_offset, site_record, rule_record, site_table, rule_table, book_in, book_from, site_gaps, rule_gaps, sites_pass, rules_pass, site_records_ok, rule_records_ok, refusal_of, book_refusal}
use Rattle.definition.specs.Accept.{lowest, book_tests}
use Rattle.definition.specs.Plan.{tree}
use Rattle.definition.specs.Tree.{words}
use Rattle.definition.specs.Answers.{refused, Outcome, written, planned}

-- PLANNING BY A WAY OF READING: the sum of k words from byte o on, whether k bytes from o on are zero, and the words of a record at byte o
pub record Way : Type 0 where
  pub sum : (ℕ → ℕ) → List ℕ → ℕ → ℕ → ℕ
  pub zeros : List ℕ → ℕ → ℕ → Bool
  pub site : List ℕ → ℕ → List ℕ
  pub rule : ℕ → List ℕ → ℕ → List ℕ

unfoldable pub sums_by : Way → List ℕ → Bool
sums_by y b = all (λ i. y.sum (edition b).weight b (block_start i) 128 is right_sum) (upto (block_count b))

unfoldable pub framed_by : Way → List ℕ → ℕ → Frame → Bool
framed_by y b i f =
    let o = block_start i in
    every (
    le16 b o is i
    ∷ byte b (o + 2) is f.kind
    ∷ byte b (o + 3) is f.count
    ∷ y.zeros b (o + 4 + f.used) (records_bytes - f.used)
    ∷ [])

unfoldable pub frames_by : Way → ℕ → List ℕ → Bool
frames_by y n b =
    let S = sites_named b in
    let R = rules_named b in
    every (
    S at_most most
    ∷ R at_most most
    ∷ block_count b is blocks_wanted n S R
    ∷ all (λ i. framed_by y b i (frame n S R i)) (upto (block_count b))
    ∷ [])

unfoldable pub sites_by : Way → List ℕ → List ℕ
sites_by y b = flat (λ s. y.site b (site_offset s)) (upto (sites_named b))

unfoldable pub rules_by : Way → ℕ → List ℕ → List ℕ
rules_by y n b = flat (λ i. y.rule n b (rule_offset n (sites_named b) i)) (upto (rules_named b))

unfoldable pub book_by : Way → ℕ → List ℕ → Book
book_by y n b = book_of n (sites_named b) (rules_named b) (sites_by y b) (rules_by y n b)

unfoldable pub refusal_by : Way → ℕ → List ℕ → ℕ
refusal_by y n b =
    let S = sites_named b in
    let R = rules_named b in
    lowest 1 (
    length_ok b
    ∷ sums_by y b
    ∷ frames_by y n b
    ∷ (site_gaps b S && sites_pass n S R (sites_by y b) (rules_by y n b))
    ∷ (rule_gaps n b S R && rules_pass n S R (sites_by y b) (rules_by y n b))
    ∷ book_tests (book_by y n b))

unfoldable pub planned_by : Way → List ℕ → List ℕ → Outcome
planned_by y b room =
    let refusal = refusal_by y (edition b).rule_slots b in
    if refusal is 0
    then written (words (tree (book_by y (edition b).rule_slots b))) room
    else record { answer = refused refusal; room = room }

-- the definition's way
abbrev pub counting : Way
counting = record { sum = sum_of; zeros = zero_from; site = site_fields; rule = rule_fields }

pub planned_counting : (b room : List ℕ) → planned b room ≡ planned_by counting b room
unfolding planned book_refusal refusal_of sums_ok sum_ok frames_ok frame_ok framed site_records_ok rule_records_ok site_table rule_table site_record rule_record book_in book_from planned_by refusal_by sums_by frames_by framed_by sites_by rules_by book_by
planned_counting b room = refl

-- FRONT TO BACK. What stands m = o + k bytes from the front stands k bytes behind the first o
pub behind : (b : List ℕ) (o k m : ℕ) → m ≡ o + k → drop m b ≡ drop k (drop o b)
behind b o k m e = ap (λ (n : ℕ). drop n b) e ∙ sym (drop-drop k o b)

pub byte_is : (b : List ℕ) (o k m : ℕ) → m ≡ o + k → byte b m ≡ byte (drop o b) k
byte_is b o k m e = ap (byte b) e ∙ sym (get_or-drop o b k 0)

pub le16_is : (b : List ℕ) (o k m : ℕ) → m ≡ o + k → le16 b m ≡ le16 (drop o b) k
le16_is b o k m e = λ i. byte_is b o k m e i + byte_is b o (k + 1) (m + 1) (omega arith) i * 256

pub le32_is : (b : List ℕ) (o k m : ℕ) → m ≡ o + k → le32 b m ≡ le32 (drop o b) k
le32_is b o k m e = λ i.
    byte_is b o k m e i
    + byte_is b o (k + 1) (m + 1) (omega arith) i * 256
    + byte_is b o (k + 2) (m + 2) (omega arith) i * 65536
    + byte_is b o (k + 3) (m + 3) (omega arith) i * 16777216

-- j words are in the sum, k are to come
unfoldable pub tally : (ℕ → ℕ) → ℕ → ℕ → ℕ → List ℕ → ℕ
tally weight sum j zero l = sum
tally weight sum j (suc k) l = tally weight ((sum + weight j * le32 l 0) % 2 ^ 32) (suc j) k (drop 4 l)

pub tally_is : (w : ℕ → ℕ) (b : List ℕ) (o j k m n : ℕ) → m ≡ j + k → n ≡ o + 4 * j → sum_of w b o m ≡ tally w (sum_of w b o j) j k (drop n b)
unfolding sum_of tally
tally_is w b o j zero m n e h = ap (sum_of w b o) (let f : m ≡ j = omega arith in f)
tally_is w b o j (suc k) m n e h =
    tally_is w b o (suc j) k m (n + 4) (omega arith) (omega arith)
    ∙ (λ i. tally w ((sum_of w b o j + w j * le32_is b n 0 (o + 4 * j) (omega arith) i) % 2 ^ 32) (suc j) k (behind b n 4 (n + 4) refl i))

-- the first k are zero
unfoldable pub zero_first : ℕ → List ℕ → Bool
zero_first zero l = true
zero_first (suc k) l = byte l 0 is 0 && zero_first k (drop 1 l)

pub zero_is : (b : List ℕ) (o k : ℕ) → zero_from b o k ≡ zero_first k (drop o b)
unfolding is_zero zero_first
zero_is b o zero = refl
zero_is b o (suc k) = λ i. byte_is b o 0 o (omega arith) i is 0 && (zero_is b (suc o) k ∙ ap (zero_first k) (behind b o 1 (suc o) (omega arith))) i

pub site_is : (b : List ℕ) (o : ℕ) → site_fields b o ≡ site_fields (drop o b) 0
unfolding site_fields
site_is b o = λ i.
    let kind = byte_is b o 0 o (omega arith) i in
    let count = byte_is b o 1 (o + 1) refl i in
    let source = le16_is b o 2 (o + 2) refl i in
    if kind is 7
    then kind ∷ count ∷ source ∷ byte_is b o 4 (o + 4) refl i ∷ byte_is b o 5 (o + 5) refl i ∷ le32_is b o 6 (o + 6) refl i ∷ []
    else kind ∷ count ∷ source ∷ le16_is b o 4 (o + 4) refl i ∷ le16_is b o 6 (o + 6) refl i ∷ le16_is b o 8 (o + 8) refl i ∷ []

pub constraint_is : (b : List ℕ) (o k : ℕ) → constraint_fields b o k ≡ constraint_fields (drop o b) 0 k
unfolding constraint_fields
constraint_is b o k = λ i.
    le16_is b o (14 + 8 * k) (o + 14 + 8 * k) (omega arith) i
    ∷ byte_is b o (14 + 8 * k + 2) (o + 14 + 8 * k + 2) (omega arith) i
    ∷ byte_is b o (14 + 8 * k + 3) (o + 14 + 8 * k + 3) (omega arith) i
    ∷ le32_is b o (14 + 8 * k + 4) (o + 14 + 8 * k + 4) (omega arith) i
    ∷ []

pub id_is : (n : ℕ) (b : List ℕ) (o k : ℕ) → id_field n b o k ≡ id_field n (drop o b) 0 k
unfolding id_field
id_is n b o k = le16_is b o (14 + 8 * n + 2 * k) (o + 14 + 8 * n + 2 * k) (omega arith)

pub rule_is : (n : ℕ) (b : List ℕ) (o : ℕ) → rule_fields n b o ≡ rule_fields n (drop o b) 0
unfolding rule_fields
rule_is n b o = λ i.
    (le32_is b o 0 o (omega arith) i
    ∷ le32_is b o 4 (o + 4) refl i
    ∷ le16_is b o 8 (o + 8) refl i
    ∷ byte_is b o 10 (o + 10) refl i
    ∷ byte_is b o 11 (o + 11) refl i
    ∷ byte_is b o 12 (o + 12) refl i
    ∷ [])
    ++ flat (λ k. constraint_is b o k i) (upto n)
    ++ map (λ k. id_is n b o k i) (upto 12)

abbrev pub through : Way
through = record {
  sum = λ w b o k. tally w 0 0 k (drop o b);
  zeros = λ b o k. zero_first k (drop o b);
  site = λ b o. site_fields (drop o b) 0;
  rule = λ n b o. rule_fields n (drop o b) 0;
}

pub ways_agree : counting ≡ through
unfolding sum_of
ways_agree = λ i. record {
  sum = λ w b o k. tally_is w b o 0 k k o (omega arith) (omega arith) i;
  zeros = λ b o k. zero_is b o k i;
  site = λ b o. site_is b o i;
  rule = λ n b o. rule_is n b o i;
}

pub planned_through : (b room : List ℕ) → planned b room ≡ planned_by through b room
planned_through b room = planned_counting b room ∙ ap (λ (y : Way). planned_by y b room) ways_agree
