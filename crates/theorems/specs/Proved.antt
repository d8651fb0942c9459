-- The demands are met: each is put together from the file that shows it.
use Rattle.std.specs.Prelude.{◌≡◌, refl, true, ℕ, ◌+◌, ◌^◌, ◌≤◌, ◌<◌}
use Rattle.std.proofs.Math.Path.{sym, ap}
use Rattle.std.proofs.Common.{◌∙◌, subst, arith}
use Rattle.std.proofs.Math.Bool.{not}
use mathlib.Core.List.{[], Memᴰ}
use Rattle.std.proofs.Math.Option.{Option, none, some}
use Rattle.std.proofs.Math.ListN.{length}
use Rattle.definition.specs.Lists.{upto}
use Rattle.definition.specs.Book.{Book, slots}
use Rattle.definition.specs.Bytes.{book_from, book_refusal}
use Rattle.definition.specs.Scope.{root}
use Rattle.definition.specs.Choice.{at_least}
use Rattle.definition.specs.Plan.{outranks, tree}
use Rattle.definition.specs.Tree.{nesting, words, returned}
use Rattle.definition.specs.Walk.{Reading, Hit, walk}
use Rattle.laws.specs.Tests.{clash}
use Rattle.laws.specs.Members.{mem_from, from_bounds}
use Rattle.laws.specs.Ranges.{from_length}
use Rattle.laws.specs.Totals.{only, total, total_times, times_from, times_past}
use Rattle.theorems.specs.Partition.{Right, Top}
use Rattle.theorems.specs.Accepted.{good, rule_in, rule_of}
use Rattle.theorems.specs.Frame.{Frame}
use Rattle.theorems.specs.Root.{root_frame, root_facts, root_cover}
use Rattle.theorems.specs.WalkRight.{block_right}
use Rattle.theorems.specs.ReturnedOnce.{block_once}
use Rattle.theorems.specs.BoundBeforeUse.{block_safe}
use Rattle.theorems.specs.NestingEnough.{exact}
use Rattle.theorems.specs.ReadBack.{well_formed, block_read}
use Rattle.theorems.specs.WellFormed.{block_fine}
use Rattle.theorems.specs.SitesNamed.{block_names}
use Rattle.theorems.specs.Lean.{block_lean}
use Rattle.theorems.specs.WordBound.{words_small}
use Rattle.theorems.specs.Refusals.{Taken, taken}
use Rattle.theorems.specs.Demands.{NoMatch, Highest, times, Demand3, SoundTree, Demands}

-- a book of n constraint slots whose rules' constraints and pairs the nesting allows for
module _ (n : ℕ) (b : Book) (k : Taken n b) (deep : n + 4 ≤ nesting) where
  abbrev R : ℕ
  R = length b.rules

  frame : Frame b nesting (root b) (upto R)
  frame = root_frame n nesting b k.passed k.few_sites deep

  right : (d : Reading) → Right b d (upto R) (walk d (tree b))
  unfolding walk tree
  right d = block_right b d (good n b k.passed) nesting (root b) (upto R) frame (root_facts b d (upto R))

  member : (i : ℕ) → i < R → Memᴰ i (upto R)
  member i h = mem_from 0 R i (omega arith) (omega (arith, h))

  none_matches : (d : Reading) → walk d (tree b) ≡ none → NoMatch b d
  none_matches d e i h = subst (Right b d (upto R)) e (right d) i (member i h)

  top : (d : Reading) (h : Hit) → walk d (tree b) ≡ some h → Top b d (upto R) h
  top d h e = subst (Right b d (upto R)) e (right d)

  known : (d : Reading) (h : Hit) → walk d (tree b) ≡ some h → h.rule < R
  known d h e = let z = from_bounds 0 R h.rule (top d h e).member in omega (arith, z)

  finds_none : (d : Reading) → NoMatch b d → walk d (tree b) ≡ none
  finds_none d m = go (walk d (tree b)) refl
    where
      go : (o : Option Hit) → walk d (tree b) ≡ o → walk d (tree b) ≡ none
      go none e = e
      go (some h) e = clash (top d h e).fires (m h.rule (known d h e))

  highest : (d : Reading) (h : Hit) → walk d (tree b) ≡ some h → Highest b d h
  unfolding outranks at_least
  highest d h e = record {
    known = known d h e;
    matching = (top d h e).fires;
    unsurpassed = λ j l m. ap not ((top d h e).highest j (member j l) m);
    result = (top d h e).result;
  }

  counted_returns : (i : ℕ) → times i (returned (tree b)) ≡ total (only i) (upto R)
  unfolding tree
  counted_returns i = sym (total_times i (returned (tree b))) ∙ block_once b (good n b k.passed) nesting (root b) (upto R) frame (only i)

  demand_3 : Demand3 b
  unfolding tree
  demand_3 = record {
    nothing = λ d. (none_matches d, finds_none d);
    found = highest;
    once = λ i h. counted_returns i ∙ times_from 0 R i (omega arith) (omega (arith, h));
    no_other = λ i h. counted_returns i ∙ times_past i 0 R (omega (arith, h));
    bound = block_safe b (good n b k.passed) nesting (root b) (upto R) frame [] (λ x q y. absurd (root_cover b x y));
  }

  well : well_formed (tree b) nesting ≡ true
  unfolding tree
  well =
      block_fine b (good n b k.passed) k.few_sites k.few_rules
      (λ i c h m. (((rule_of n b k.passed i (rule_in b i h)).constraint_right c m).1, k.numbers i c h m)) nesting (root b) (upto R) frame

  few : length (words (tree b)) < 2 ^ 20
  unfolding tree
  few =
      let q = block_lean b (good n b k.passed) nesting (root b) (upto R) frame in
      let e : length (returned (tree b)) ≡ R = q.0 ∙ from_length 0 R in
      omega (arith, words_small nesting (tree b) well q.1, e, k.few_rules)

  pub sound_tree : SoundTree b
  unfolding tree
  sound_tree = record {
    demand_3 = demand_3;
    nesting_enough = λ more. sym (exact b (good n b k.passed) more nesting (root b) (upto R) frame);
    reads_back = λ rest. block_read nesting (tree b) well rest;
    words_few = few;
    sites_known = block_names b (good n b k.passed) nesting (root b) (upto R) frame;
  }

pub demands : Demands
unfolding book_refusal book_from
demands bytes e = sound_tree slots (book_from bytes) (taken slots bytes e) (omega arith)
