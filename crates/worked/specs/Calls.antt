-- The calls that stand in the table, and what the definition replies to each.
use Rattle.std.specs.Prelude.{Bool, List, ℕ}
use Rattle.std.proofs.Math.Option.{Option, none, some}
use Rattle.definition.specs.Walk.{Reading, Hit}
use Rattle.definition.specs.Sets.{Sets}
use Rattle.definition.specs.Answers.{Answer, refused, answered, Done, Outcome, planned, walked, merge_answer, find_answer, same_answer, remove_answer}

-- plan a book in a room; walk words by a reading; merge two ids; ask a store for the representative of an id, whether two ids are in one set,
-- and for the members of the set to be removed
pub data Call : Type 0 where
  plan : List ℕ → List ℕ → Call
  walk : List ℕ → Reading → Call
  merge : ℕ → ℕ → Call
  find : ℕ → Sets → Call
  same : ℕ → ℕ → Sets → Call
  remove : ℕ → Sets → Call

pub data Reply : Type 0 where
  planning : Outcome → Reply
  walking : Answer (Option Hit) → Reply
  merging : Answer Done → Reply
  finding : Answer (Option ℕ) → Reply
  comparing : Answer Bool → Reply
  removing : Answer (List ℕ) → Reply

-- what the definition replies
abbrev pub reply : Call → Reply
reply (plan book room) = planning (planned book room)
reply (walk words d) = walking (walked words d)
reply (merge x y) = merging (merge_answer x y)
reply (find x s) = finding (find_answer x s)
reply (same x y s) = comparing (same_answer x y s)
reply (remove x s) = removing (remove_answer x s)

-- a row of the table: a call, and what it has to come to
pub record Row : Type 0 where
  pub call : Call
  pub due : Reply

infix 68 ◌gives◌
abbrev pub ◌gives◌ : Call → Reply → Row
c gives r = record { call = c; due = r }

-- REPLIES AS DOCUMENT 01 SAYS THEM. So many words, or a refusal by its number, and what is then in the room
abbrev pub fits : ℕ → List ℕ → Reply
fits n room = planning (record { answer = answered n; room = room })

abbrev pub refuses : ℕ → List ℕ → Reply
refuses n room = planning (record { answer = refused n; room = room })

-- a walk stops at a Return of this rule and result, or nothing matches
abbrev pub stops_at : ℕ → ℕ → Reply
stops_at rule result = walking (answered (some (record { rule = rule; result = result })))

abbrev pub nothing_matches : Reply
nothing_matches = walking (answered none)

abbrev pub refuses_walk : ℕ → Reply
refuses_walk n = walking (refused n)
