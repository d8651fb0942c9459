-- Books laid out in bytes from the fields of their records (document 01, "The book"): a head, and at most one block of sites and one of rules.
use Rattle.std.specs.Prelude.{List, [], ◌∷◌, ◌++◌, ℕ, suc, ◌+◌, ◌-◌, ◌*◌, ◌/◌, ◌%◌, ◌^◌, length, replicate}
use Rattle.definition.specs.Lists.{flat}

-- NUMBERS of 16 and 32 bits, little-endian; a negative number is its two's complement
abbrev pub bytes_2 : ℕ → List ℕ
bytes_2 n = n % 256 ∷ n / 256 ∷ []

abbrev pub bytes_4 : ℕ → List ℕ
bytes_4 n = n % 256 ∷ n / 256 % 256 ∷ n / 65536 % 256 ∷ n / 16777216 ∷ []

abbrev pub minus : ℕ → ℕ
minus n = 2 ^ 32 - n

-- fields, and zeros behind them up to n bytes
abbrev pub filled : ℕ → List ℕ → List ℕ
filled n fields = fields ++ replicate (n - length fields) 0

-- records, one after another
abbrev pub joined : List (List ℕ) → List ℕ
joined records = flat (λ r. r) records

-- SITES. Kinds 0 to 6: kind, source count, sources
abbrev pub site : ℕ → List ℕ → List ℕ
site kind sources = filled 12 (kind ∷ length sources ∷ flat bytes_2 sources)

-- kind 7: source count, source, pattern kind, position, number
abbrev pub bound_site : ℕ → ℕ → ℕ → ℕ → List ℕ
bound_site source pattern position number = filled 12 (7 ∷ 1 ∷ bytes_2 source ++ pattern ∷ position ∷ bytes_4 number)

-- RULES. A constraint: site, pattern kind, field count, number
abbrev pub constraint : ℕ → ℕ → ℕ → ℕ → List ℕ
constraint on pattern fields number = bytes_2 on ++ pattern ∷ fields ∷ bytes_4 number

abbrev pub pair : ℕ → ℕ → List ℕ
pair a b = bytes_2 a ++ bytes_2 b

-- priority, pos, result, counts, a zero byte, four constraints, four pairs, no impure sites, two zero bytes
abbrev pub rule : ℕ → ℕ → ℕ → List (List ℕ) → List (List ℕ) → List ℕ
rule priority pos result constraints pairs =
    bytes_4 priority ++ bytes_4 pos ++ bytes_2 result ++ (length constraints ∷ length pairs ∷ 0 ∷ 0 ∷ [])
    ++ filled 32 (joined constraints)
    ++ filled 16 (joined pairs)
    ++ filled 8 []
    ++ filled 2 []

-- BLOCKS. What bytes add to the sum of a block's words: byte i counts 256 ^ (i % 4)
abbrev pub word_sum : ℕ → List ℕ → ℕ
word_sum i [] = 0
word_sum i (x ∷ bytes) = x * 256 ^ (i % 4) + word_sum (suc i) bytes

-- the word that brings the sum, wrapped at 32 bits, to 0x4C494654
abbrev pub check : List ℕ → List ℕ
check bytes = bytes_4 ((0x4C49_4654 + minus (word_sum 0 bytes % 2 ^ 32)) % 2 ^ 32)

-- number, kind, record count, records, zeros up to byte 508, check
abbrev pub block : ℕ → ℕ → ℕ → List ℕ → List ℕ
block number kind count records =
    let used : List ℕ = bytes_2 number ++ kind ∷ count ∷ records in
    filled 508 used ++ check used

-- BOOKS. The head names S sites and R rules
abbrev pub head : ℕ → ℕ → List ℕ
head S R = block 0 1 0 (bytes_2 S ++ bytes_2 R)

-- no block if there are no records
abbrev pub records_block : ℕ → ℕ → List (List ℕ) → List ℕ
records_block number kind [] = []
records_block number kind (r ∷ rs) = block number kind (length (r ∷ rs)) (joined (r ∷ rs))

abbrev pub book : List (List ℕ) → List (List ℕ) → List ℕ
book sites rules = head (length sites) (length rules) ++ records_block 1 2 sites ++ records_block 2 3 rules
