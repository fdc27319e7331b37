-- What the run program prints: the simulated exchange of the table and of the run file that are read, whose pattern
-- numbers are fields of two or four bytes.
use mathlib.Core.Path.{◌≡◌, sym, ap, ◌∙◌}
use mathlib.Core.Bool.{true, false}
use mathlib.Core.List.{List, [], ◌∷◌}
use mathlib.Core.Logic.{◌⊎◌, inl, inr, ◌↔◌}
use Prim.Native.Nat.{ℕ, ◌-◌}
use native.Mathlib.Omega.{arith}
use lib.Dec.{eqb}
use borrow.Author.Tests.{eqb-true, eqb-false, ne_eqb}
use Rattle.drive_sets.specs.Bools.Laws.{by_test, cond_true, cond_false}
use Rattle.drive_sets.specs.Counts.{is_drive}
use Rattle.drive_sets.specs.Lists.{elem}
use Rattle.drive_sets.specs.Lists.Laws.{elem_head, elem_none, any_false}
use Rattle.drive_sets.specs.Refusals.Laws.{first_result}
use Rattle.table_files.specs.Files.{read_table}
use Rattle.runs.specs.Scenario.{has_crash}
use Rattle.runs.specs.Statement.{last_round}
use Rattle.runs.specs.Scenario.Laws.{no_crash_stays}
use Rattle.runs.specs.CrashRecords.{CrashRecord, crash_in, scenario, drives_of}
use Rattle.agreement.specs.RoundEndings.{Ending, stopped}
use Rattle.run_files.specs.RunFiles.{read_run_file}
use Rattle.run_files.specs.RunFiles.Accepted.{not_refused}
use Rattle.simulation.specs.Simulation.{Simulated}
use Rattle.run_listing.specs.RunListing.{run_text, simulated_with, simulated_file, run_program}
use Rattle.promises.specs.Exchange.{ending_in, DecidesBy, ExchangeGives, ExchangeOfCall}
use Rattle.promises.specs.RunText.{RunTextOfFile}
use Rattle.promises.proofs.Exchange.{exchange_of_call}
use Rattle.table_files.specs.Files.Rest.{rest_bytes}

-- a drive has a CR exactly if one of the records names it
crash_named : (cs : List CrashRecord) (d : ℕ) → has_crash (crash_in cs d) ≡ elem d (drives_of cs)
unfolding has_crash crash_in elem
crash_named [] d = sym (elem_none d)
crash_named (c ∷ cs) d =
    by_test (eqb c.drive d)
    (λ t. ap has_crash (cond_true _ _ t) ∙ sym (ap (λ (e : ℕ). elem e (drives_of (c ∷ cs))) (sym (eqb-true c.drive d t)) ∙ elem_head c.drive (drives_of cs)))
    (λ t. ap has_crash (cond_false _ _ t)
    ∙ (crash_named cs d ∙ sym (any_false (eqb d) c.drive (drives_of cs) (ne_eqb d c.drive (λ e. eqb-false c.drive d t (sym e))))))

decision_not_stopped : {e : Ending} {last v : ℕ} → DecidesBy last v e → e ≡ stopped → ⊥
decision_not_stopped w e = let is = w.is in let z : ◌≡◌ {A = ℕ} 0 1 = cc in omega arith

-- ---- how the drives end, by the records of the run file

module _ (n : ℕ) (sets numbers : List ℕ) (crs : List CrashRecord) (r : Simulated) (gives : ExchangeGives (scenario n sets numbers crs) r) where
  named_stopped : (d : ℕ) → is_drive n d ≡ true → elem d (drives_of crs) ≡ true → ending_in r.endings d ≡ stopped
  unfolding scenario
  named_stopped d h i = gives.with_crash d h (crash_named crs d ∙ i)

  others_decide : (d : ℕ) → is_drive n d ≡ true → elem d (drives_of crs) ≡ false → DecidesBy (last_round (scenario n sets numbers crs)) gives.value (ending_in r.endings d)
  unfolding scenario
  others_decide d h i =
      gives.agreed d (record { in_frame = h; stay = no_crash_stays (crash_in crs d) (crash_named crs d ∙ i) })

  each : (d : ℕ) → is_drive n d ≡ true → (ending_in r.endings d ≡ stopped) ⊎ DecidesBy (last_round (scenario n sets numbers crs)) gives.value (ending_in r.endings d)
  each d h = by_test (elem d (drives_of crs)) (λ i. inl (named_stopped d h i)) (λ i. inr (others_decide d h i))

  stopped_are : (d : ℕ) → is_drive n d ≡ true → (ending_in r.endings d ≡ stopped) ↔ (elem d (drives_of crs) ≡ true)
  stopped_are d h = (
    (λ e. by_test (elem d (drives_of crs)) (λ i. i) (λ i. absurd (decision_not_stopped (others_decide d h i) e))),
    named_stopped d h,
  )

pub run_text_of_file : RunTextOfFile
unfolding RunTextOfFile ExchangeOfCall simulated_file simulated_with run_program scenario
run_text_of_file input bytes r e =
    let first = first_result (read_table input) _ e in
    let t = first.0 in
    let second = first_result (read_run_file t.n t.sets t.rest) _ first.2 in
    let f = second.0 in
    let run = not_refused t.n t.sets t.rest f second.1 in
    let gives = exchange_of_call t.n t.sets f.numbers f.crashes r second.2 (λ d h. run.patterns (rest_bytes input bytes first.1) (d - 1)) in
    record {
      table = t;
      table_read_law = first.1;
      file = f;
      file_read = second.1;
      exchange = gives;
      text = ap run_text e;
      many = gives.many;
      each = each t.n t.sets f.numbers f.crashes r gives;
      stopped_are = stopped_are t.n t.sets f.numbers f.crashes r gives;
    }
