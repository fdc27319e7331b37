-- The search from no set and no drive, which misses every set.
use mathlib.Core.Path.{sym, ◌∙◌}
use borrow.Author.Rules.{rules}
use Rattle.survivor_tables.proofs.Hitting.SearchLaws.{none_minimal}
use Rattle.survivor_tables.specs.Hitting.{minimals}
use Rattle.hitting_sets.proofs.Trials.{end_one, searched_passed}
use Rattle.hitting_sets.proofs.Tracking.{tracked_start}
use Rattle.hitting_sets.proofs.Places.{missed_next, none_next, passed_minimal}
use Rattle.hitting_sets.proofs.search.search_all.Goals as goal

pub next_marked-first-requires : goal.next_marked-first-requires
next_marked-first-requires c = (search rules, none_minimal.all_met, c.words_for-words.ensures, (tracked_start _ c.fill.new.columns _ c.words_for-words.ensures c.fill.ensures).misses)

pub returns-in_default : goal.returns-in_default
unfolding minimals
returns-in_default c =
    let a = c.args in
    let f = none_next a.sets.now 0 0 (search rules) (sym c.next_marked-first.ensures ∙ c.in_default.is) in
    end_one a.sets.now 0 0 f a.out.now 0 (search rules) c.put.ensures.0 c.put.ensures.1 c.put.ensures.2

pub overflow_sub-i : goal.overflow_sub-i
overflow_sub-i c = (missed_next c.args.sets.now 0 0 _ (sym c.next_marked-first.ensures ∙ c.in-Some.is)).0

pub search_from-requires : goal.search_from-requires
search_from-requires c =
    let sets = c.args.sets.now in
    let f = missed_next sets 0 0 _ (sym c.next_marked-first.ensures ∙ c.in-Some.is) in
    (f.1, f.3, search rules, passed_minimal sets 0 0 _ f.2 none_minimal, tracked_start _ _ _ c.words_for-words.ensures c.fill.ensures)

pub returns : goal.returns
unfolding minimals
returns c =
    let sets = c.args.sets.now in
    let f = missed_next sets 0 0 _ (sym c.next_marked-first.ensures ∙ c.in-Some.is) in
    searched_passed sets 0 0 _ f.2 c.search_from.ensures
