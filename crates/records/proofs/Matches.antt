-- Kinds compared.
use mathlib.Core.Path.{◌≡◌, ap}
use borrow.Author.Tests.{eq-eqb}
use borrow.Author.Rules.{rules}
use denote.Enum.Bare.{sameb, same_true, true_same}
use Rattle.drive_sets.specs.Bools.Laws.{same_test}
use Rattle.records.specs.contracts.Kind.{the_type}
use Rattle.records.specs.declared.Kind.{Kind}
use Rattle.records.specs.Marks.{mark, is_kind}
use Rattle.records.specs.Marks.Laws.{kind_is}

-- kinds are equal where their marks are
pub kind_same : (k one : Kind) → sameb the_type k one ≡ is_kind one k
unfolding is_kind
kind_same k one =
    same_test (sameb the_type k one) (is_kind one k)
    (λ e. eq-eqb (mark k) (mark one) (ap mark (same_true the_type (search rules) k one e)))
    (λ e. true_same the_type k one (kind_is one k e))
