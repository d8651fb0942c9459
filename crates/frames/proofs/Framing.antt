-- The frame of a block by its kind, and refusal 3 test by test.
use Rattle.std.proofs.Common.{◌≡◌, ℕ, ◌-◌, ◌*◌, ◌/◌, ◌%◌, ◌<◌, ◌≤◌, min, true, false, eqb, ltb, List, length, ◌∙◌, arith, ltb-true, eq-eqb, ne_eqb, eqb-true, le-leb, leb-true}
use borrow.Author.Tests.{lt-leb}
use Rattle.definition.specs.Lists.{all, upto}
use Rattle.definition.specs.Book.{most, slots}
use Rattle.definition.specs.Bytes.{le16, length_ok, frame, frame_ok, frames_ok, block_count, blocks_wanted, blocks_for, rules_a_block, rule_bytes}
use Rattle.laws.specs.Tests.{both, every_at}
use Rattle.laws.specs.Answers.{every_stop, every_rest, every_one}
use Rattle.frames.specs.Shapes.{frame_with, blocks_in, Sizes}

pub frame_head : (n S R i : ℕ) → i ≡ 0 → frame n S R i ≡ frame_with 1 0 4
unfolding frame
frame_head n S R i e = rw (eq-eqb i 0 e)

pub frame_sites : (n S R i c : ℕ) → (i ≡ 0 → ⊥) → i ≤ blocks_for S 42 → c ≡ min 42 (S - 42 * (i - 1)) → frame n S R i ≡ frame_with 2 c (12 * c)
unfolding frame
frame_sites n S R i c h g e = rw (ne_eqb i 0 h, le-leb i (blocks_for S 42) g, e)

pub frame_rules : (n S R i c : ℕ) → (i ≡ 0 → ⊥) → blocks_for S 42 < i → c ≡ min (rules_a_block n) (R - rules_a_block n * (i - 1 - blocks_for S 42))
    → frame n S R i ≡ frame_with 3 c (rule_bytes n * c)
unfolding frame
frame_rules n S R i c h g e = rw (ne_eqb i 0 h, lt-leb i (blocks_for S 42) g, e)

-- REFUSAL 3
module _ (b : List ℕ) (S R : ℕ) (es : S ≡ le16 b 4) (er : R ≡ le16 b 6) where
  pub many_sites : most < S → frames_ok slots b ≡ false
  unfolding frames_ok
  many_sites h = every_stop _ 0 (lt-leb (le16 b 4) 252 (omega arith))

  pub many_rules : most < R → frames_ok slots b ≡ false
  unfolding frames_ok
  many_rules h = every_stop _ 1 (lt-leb (le16 b 6) 252 (omega arith))

  pub wrong_total : (length b / 512 ≡ blocks_in S R → ⊥) → frames_ok slots b ≡ false
  unfolding frames_ok block_count blocks_wanted
  wrong_total h = every_stop _ 2 (ne_eqb (length b / 512) (blocks_in (le16 b 4) (le16 b 6)) (λ e. h (rw (es, er) e)))

  pub by_blocks : S ≤ most → R ≤ most → length b / 512 ≡ blocks_in S R → frames_ok slots b ≡ all (frame_ok slots S R b) (upto (length b / 512))
  unfolding frames_ok block_count blocks_wanted
  by_blocks h g e =
      every_rest _ (le-leb (le16 b 4) 252 (omega arith))
      (every_rest _ (le-leb (le16 b 6) 252 (omega arith))
      (every_rest _ (eq-eqb (length b / 512) (blocks_in (le16 b 4) (le16 b 6)) (rw (es, er) at e))
      (every_one _ ∙ rw (es, er))))

-- WHAT REFUSALS 1 AND 3 LEAVE TO KNOW
pub at_least_one : (b : List ℕ) → length_ok b ≡ true → 512 ≤ length b
unfolding length_ok
at_least_one b e =
    let h = both (ltb 0 (length b)) (eqb (length b % 512) 0) e in
    omega (arith, ltb-true 0 (length b) h.0, eqb-true (length b % 512) 0 h.1)

pub sizes : (b : List ℕ) (S R : ℕ) → S ≡ le16 b 4 → R ≡ le16 b 6 → frames_ok slots b ≡ true → Sizes b S R
unfolding frames_ok block_count blocks_wanted
sizes b S R es er e =
    let p = leb-true (le16 b 4) 252 (every_at _ 0 e) in
    let q = leb-true (le16 b 6) 252 (every_at _ 1 e) in
    let t = eqb-true (length b / 512) (blocks_in (le16 b 4) (le16 b 6)) (every_at _ 2 e) in
    let t' : length b / 512 ≡ blocks_in S R = rw (es, er) t in
    record { sites = omega arith; rules = omega arith; site_room = omega arith; room = omega arith }

-- what each of the two functions that ask for frames is proved by
pub ruleset frames = (frame_head, frame_sites, frame_rules)

pub ruleset totals = (many_sites, many_rules, wrong_total, by_blocks)
