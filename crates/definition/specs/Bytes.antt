-- A book on the line (document 01, "The book"): bytes in blocks, the tests behind refusals 1 to 5, and the refusal of a book.
use Rattle.std.specs.Prelude.{Bool, ◌&&◌, List, [], ◌∷◌, ◌++◌, map, ℕ, zero, suc, ◌+◌, ◌-◌, ◌*◌, ◌/◌, ◌%◌, ◌^◌, min, get_or, length, if◌then◌else◌}
use Rattle.definition.specs.Lists.{◌is◌, ◌below◌, ◌at_most◌, every, upto, all, flat}
use Rattle.definition.specs.Book.{Book, most, slots}
use Rattle.definition.specs.Tables.{book_of, zero_from, site_tidy, rule_tidy}
use Rattle.definition.specs.Accept.{sites_ok, rules_ok, lowest, book_tests}

-- FIELDS, little-endian: the byte, the 16-bit number and the 32-bit number that begin at byte i
abbrev pub byte : List ℕ → ℕ → ℕ
byte b i = get_or b i 0

abbrev pub le16 : List ℕ → ℕ → ℕ
le16 b i = byte b i + byte b (i + 1) * 256

abbrev pub le32 : List ℕ → ℕ → ℕ
le32 b i = byte b i + byte b (i + 1) * 256 + byte b (i + 2) * 65536 + byte b (i + 3) * 16777216

-- BLOCKS of 512 bytes: bytes 0-1 number, 2 kind, 3 record count, 4-507 records, 508-511 check
abbrev pub block_bytes : ℕ
block_bytes = 512

abbrev pub records_bytes : ℕ
records_bytes = 504

abbrev pub block_start : ℕ → ℕ
block_start i = block_bytes * i

unfoldable pub block_count : List ℕ → ℕ
block_count b = length b / block_bytes

-- EDITIONS. What the edition of a book settles: the constraint slots of a rule, and how often word i of a block counts in its sum
pub record Edition : Type 0 where
  pub rule_slots : ℕ
  pub weight : ℕ → ℕ

abbrev pub edition_1 : Edition
edition_1 = record { rule_slots = slots; weight = λ i. 1 }

-- there is one edition
abbrev pub edition : List ℕ → Edition
edition b = edition_1

-- 1: BOOK LENGTH IS 0 OR NO MULTIPLE OF 512
unfoldable pub length_ok : List ℕ → Bool
length_ok b = 0 below length b && (length b % block_bytes) is 0

-- 2: SOME BLOCK'S SUM IS WRONG. The first k words from byte o on, each taken as often as its weight says, added and wrapped at 32 bits
unfoldable pub sum_of : (ℕ → ℕ) → List ℕ → ℕ → ℕ → ℕ
sum_of weight b o zero = 0
sum_of weight b o (suc k) = (sum_of weight b o k + weight k * le32 b (o + 4 * k)) % 2 ^ 32

abbrev pub right_sum : ℕ
right_sum = 0x4C49_4654

unfoldable pub sum_ok : (ℕ → ℕ) → List ℕ → ℕ → Bool
sum_ok weight b i = sum_of weight b (block_start i) 128 is right_sum

unfoldable pub sums_ok : List ℕ → Bool
sums_ok b = all (sum_ok (edition b).weight b) (upto (block_count b))

-- 3: S OR R ABOVE 252; NUMBER, KIND, COUNT, BLOCK TOTAL OR A FILLER BYTE OUTSIDE THE RECORDS WRONG
-- the head names S and R
abbrev pub sites_named : List ℕ → ℕ
sites_named b = le16 b 4

abbrev pub rules_named : List ℕ → ℕ
rules_named b = le16 b 6

-- a site has 12 bytes, 42 sites to a block; a rule of n constraint slots has 40 + 8n, as many to a block as fit
abbrev pub site_bytes : ℕ
site_bytes = 12

abbrev pub sites_a_block : ℕ
sites_a_block = 42

abbrev pub rule_bytes : ℕ → ℕ
rule_bytes n = 40 + 8 * n

abbrev pub rules_a_block : ℕ → ℕ
rules_a_block n = records_bytes / rule_bytes n

-- blocks for m records, k to a block
abbrev pub blocks_for : ℕ → ℕ → ℕ
blocks_for m k = (m + (k - 1)) / k

-- a head, then site blocks, then rule blocks
unfoldable pub blocks_wanted : ℕ → ℕ → ℕ → ℕ
blocks_wanted n S R = 1 + blocks_for S sites_a_block + blocks_for R (rules_a_block n)

-- what a block has to say of itself: kind (1 head, 2 sites, 3 rules), record count, and how many of its bytes 4 to 507 are in use
pub record Frame : Type 0 where
  pub kind : ℕ
  pub count : ℕ
  pub used : ℕ

abbrev pub head_frame : Frame
head_frame = record { kind = 1; count = 0; used = 4 }

-- all blocks of a kind but the last are full: how many of m records, k to a block, stand in the block behind i full ones
abbrev pub records_in : ℕ → ℕ → ℕ → ℕ
records_in m k i = min k (m - k * i)

abbrev pub sites_frame : ℕ → ℕ → Frame
sites_frame S i =
    let c = records_in S sites_a_block i in
    record { kind = 2; count = c; used = site_bytes * c }

abbrev pub rules_frame : ℕ → ℕ → ℕ → Frame
rules_frame n R i =
    let c = records_in R (rules_a_block n) i in
    record { kind = 3; count = c; used = rule_bytes n * c }

-- the frame of block i
unfoldable pub frame : ℕ → ℕ → ℕ → ℕ → Frame
frame n S R i =
    let site_blocks = blocks_for S sites_a_block in
    if i is 0 then head_frame
    else if i at_most site_blocks then sites_frame S (i - 1)
    else rules_frame n R (i - 1 - site_blocks)

-- block i has its number, that kind and count, and zeros behind the bytes in use
unfoldable pub framed : List ℕ → ℕ → Frame → Bool
framed b i f =
    let o = block_start i in
    every (
    le16 b o is i
    ∷ byte b (o + 2) is f.kind
    ∷ byte b (o + 3) is f.count
    ∷ zero_from b (o + 4 + f.used) (records_bytes - f.used)
    ∷ [])

unfoldable pub frame_ok : ℕ → ℕ → ℕ → List ℕ → ℕ → Bool
frame_ok n S R b i = framed b i (frame n S R i)

unfoldable pub frames_ok : ℕ → List ℕ → Bool
frames_ok n b =
    let S = sites_named b in
    let R = rules_named b in
    every (
    S at_most most
    ∷ R at_most most
    ∷ block_count b is blocks_wanted n S R
    ∷ all (frame_ok n S R b) (upto (block_count b))
    ∷ [])

-- RECORDS: the words of the record that begins at byte o, a word a field
unfoldable pub site_fields : List ℕ → ℕ → List ℕ
site_fields b o =
    if byte b o is 7
    then byte b o ∷ byte b (o + 1) ∷ le16 b (o + 2) ∷ byte b (o + 4) ∷ byte b (o + 5) ∷ le32 b (o + 6) ∷ []
    else byte b o ∷ byte b (o + 1) ∷ le16 b (o + 2) ∷ le16 b (o + 4) ∷ le16 b (o + 6) ∷ le16 b (o + 8) ∷ []

-- constraint k: site, pattern kind, field count, number
unfoldable pub constraint_fields : List ℕ → ℕ → ℕ → List ℕ
constraint_fields b o k =
    let c = o + 14 + 8 * k in
    le16 b c ∷ byte b (c + 2) ∷ byte b (c + 3) ∷ le32 b (c + 4) ∷ []

-- id k of the twelve behind n constraints: four pairs, four impure sites
unfoldable pub id_field : ℕ → List ℕ → ℕ → ℕ → ℕ
id_field n b o k = le16 b (o + 14 + 8 * n + 2 * k)

-- priority, pos, result, three counts; n constraints; twelve ids
unfoldable pub rule_fields : ℕ → List ℕ → ℕ → List ℕ
rule_fields n b o =
    (le32 b o ∷ le32 b (o + 4) ∷ le16 b (o + 8) ∷ byte b (o + 10) ∷ byte b (o + 11) ∷ byte b (o + 12) ∷ [])
    ++ flat (constraint_fields b o) (upto n)
    ++ map (id_field n b o) (upto 12)

-- where the record of site s and that of rule i begin
abbrev pub site_offset : ℕ → ℕ
site_offset s = block_start (1 + s / sites_a_block) + 4 + site_bytes * (s % sites_a_block)

abbrev pub rule_offset : ℕ → ℕ → ℕ → ℕ
rule_offset n S i =
    block_start (1 + blocks_for S sites_a_block + i / rules_a_block n) + 4 + rule_bytes n * (i % rules_a_block n)

unfoldable pub site_record : List ℕ → ℕ → List ℕ
site_record b s = site_fields b (site_offset s)

unfoldable pub rule_record : ℕ → ℕ → List ℕ → ℕ → List ℕ
rule_record n S b i = rule_fields n b (rule_offset n S i)

-- TABLES: the words of all records, one after another
unfoldable pub site_table : List ℕ → ℕ → List ℕ
site_table b S = flat (site_record b) (upto S)

unfoldable pub rule_table : ℕ → List ℕ → ℕ → ℕ → List ℕ
rule_table n b S R = flat (rule_record n S b) (upto R)

unfoldable pub book_in : ℕ → List ℕ → Book
book_in n b =
    let S = sites_named b in
    let R = rules_named b in
    book_of n S R (site_table b S) (rule_table n b S R)

-- the book that bytes are
unfoldable pub book_from : List ℕ → Book
book_from b = book_in (edition b).rule_slots b

-- 4 AND 5 ON THE LINE. The bytes of a record that no word holds are zero: two at the end of a site; one behind the counts of a rule and two at its end
unfoldable pub site_gap : List ℕ → ℕ → Bool
site_gap b s = zero_from b (site_offset s + 10) 2

unfoldable pub rule_gap : ℕ → ℕ → List ℕ → ℕ → Bool
rule_gap n S b i = zero_from b (rule_offset n S i + 13) 1 && zero_from b (rule_offset n S i + 38 + 8 * n) 2

unfoldable pub site_gaps : List ℕ → ℕ → Bool
site_gaps b S = all (site_gap b) (upto S)

unfoldable pub rule_gaps : ℕ → List ℕ → ℕ → ℕ → Bool
rule_gaps n b S R = all (rule_gap n S b) (upto R)

-- tables of S sites and R rules, whoever made them
unfoldable pub sites_pass : ℕ → ℕ → ℕ → List ℕ → List ℕ → Bool
sites_pass n S R t u = all (site_tidy t) (upto S) && sites_ok (book_of n S R t u)

unfoldable pub rules_pass : ℕ → ℕ → ℕ → List ℕ → List ℕ → Bool
rules_pass n S R t u = all (rule_tidy n u) (upto R) && rules_ok n (book_of n S R t u)

unfoldable pub site_records_ok : ℕ → List ℕ → Bool
site_records_ok n b =
    let S = sites_named b in
    let R = rules_named b in
    site_gaps b S && sites_pass n S R (site_table b S) (rule_table n b S R)

unfoldable pub rule_records_ok : ℕ → List ℕ → Bool
rule_records_ok n b =
    let S = sites_named b in
    let R = rules_named b in
    rule_gaps n b S R && rules_pass n S R (site_table b S) (rule_table n b S R)

-- THE REFUSAL OF A BOOK: 1 to 8, or 0. Each test covers the whole book before the next
unfoldable pub refusal_of : ℕ → List ℕ → ℕ
refusal_of n b =
    lowest 1 (
    length_ok b
    ∷ sums_ok b
    ∷ frames_ok n b
    ∷ site_records_ok n b
    ∷ rule_records_ok n b
    ∷ book_tests (book_in n b))

unfoldable pub book_refusal : List ℕ → ℕ
book_refusal b = refusal_of (edition b).rule_slots b
