-- The first search, the turns, and the last: each in the list that the one before left.
use borrow.Author.Rules.{rules}
use Rattle.std.proofs.lemmas.Option.{MatchOption-at_some}
use Rattle.search_attempts.specs.Attempts.{Attempted}
use Rattle.search_turns.proofs.Turns.{same_room}
use Rattle.search_turns.proofs.search_until_done.Goals as goal

pub returns-in-Some-search_again : goal.returns-in-Some-search_again
returns-in-Some-search_again c = same_room (search rules) c.in-Some-search_again.ensures

pub returns : goal.returns
returns c =
    let last = c.search_once-2 in
    same_room (search rules) (MatchOption-at_some _ (λ a. Attempted _ _ _ last.new.list a.found) _ c.unwrap.ensures last.ensures.attempted)
