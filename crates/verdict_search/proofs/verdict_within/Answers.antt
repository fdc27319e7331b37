-- The verdict, from what the search found.
use Rattle.verdict_search.specs.Held.{answer_of, in_four}
use Rattle.verdict_search.proofs.Answers.{held_says, answer_every, answer_yes, found_within, answer_no}
use Rattle.verdict_search.proofs.verdict_within.Goals as goal

pub no_at-requires : goal.no_at-requires
unfolding answer_of in_four
no_at-requires c = found_within _ _ _ c.requires.1 _ c.full-frame.ensures _ c.first_disjoint.ensures c.in-Some.is

pub returns-in-Some : goal.returns-in-Some
unfolding answer_of in_four
returns-in-Some c = let few = c.requires.1 in let h = held_says _ _ _ few _ (answer_no _ _ _ few _ c.full-frame.ensures _ c.first_disjoint.ensures c.in-Some.is _ c.no_at.ensures) in record { says = h.0; whole = h.1 }

pub returns-in_default : goal.returns-in_default
unfolding answer_of in_four
returns-in_default c = let few = c.requires.1 in let h = held_says _ _ _ few _ (answer_yes _ _ _ few _ c.full-frame.ensures _ c.first_disjoint.ensures c.in_default.is) in record { says = h.0; whole = h.1 }

pub returns-else-in_every-eq0 : goal.returns-else-in_every-eq0
unfolding answer_of in_four
returns-else-in_every-eq0 c = let few = c.requires.1 in let h = held_says _ _ _ few _ (answer_every _ _ _ few _ c.full-frame.ensures _ c.in_every.ensures c.if-in_every-eq0.false) in record { says = h.0; whole = h.1 }
