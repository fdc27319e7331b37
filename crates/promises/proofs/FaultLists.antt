-- The promises about fault lists, from the laws of the conversions, of fault lists as bytes and of failure models.
use mathlib.Core.Path.{◌≡◌, sym, ap, ◌∙◌, subst}
use mathlib.Core.Bool.{true}
use mathlib.Core.List.{List}
use mathlib.Core.Logic.{◌↔◌}
use Prim.Native.Nat.{ℕ, ◌+◌, ◌^◌, ◌≤◌, ◌<◌}
use native.Mathlib.Nat.{lt_of_lt_of_le}
use lib.Dec.{eqb}
use lib.ListN.{take, drop}
use lib.Seq.{take_at}
use lib.Pow.{pow_mono}
use borrow.Author.Tests.{eqb-true, eqb-false}
use Rattle.drive_sets.specs.Bools.Laws.{true_of, cond_true, cond_false}
use Rattle.drive_sets.specs.Lists.{elem}
use Rattle.drive_sets.specs.Masks.{outside, Below}
use Rattle.drive_sets.specs.Refusals.{Outcome, yields, and_then}
use Rattle.drive_sets.specs.Refusals.Laws.{first_result, same_result}
use Rattle.survivor_tables.specs.Executions.{Describes}
use Rattle.survivor_tables.specs.Hitting.Critical.{all_critical, critical_all}
use Rattle.survivor_tables.specs.Hitting.Laws.{hits_meets, meets_hits}
use Rattle.survivor_tables.specs.Hitting.Minimality.{minimal_critical, critical_minimal}
use Rattle.survivor_tables.specs.Order.{normal}
use Rattle.survivor_tables.specs.Tables.{cores, normal_table, Accepted}
use Rattle.survivor_tables.proofs.Tables.Laws.{table_accepted, accepted_table, accepted_normal, sets_below, dual_minimal, minimal_dual, survivor_sets_dual}
use Rattle.complete_tables.specs.Complete.{Complete, with_cores, complete_table}
use Rattle.table_files.specs.Files.{ReadTable, table_bytes}
use Rattle.fault_lists.specs.FaultLists.{rests, largest, table_from_faults, complete_from_faults, fault_list, faults_from_table}
use Rattle.fault_lists.specs.FaultLists.Rests.{rests_below, rests_rests}
use Rattle.fault_lists.proofs.FaultLists.Largest.{largest_elem, largest_alone, alone_largest, largest_rising, largest_rests, rests_largest}
use Rattle.fault_lists.proofs.FaultLists.Laws.{groups_below, from_faults, faults_back, table_back, normal_largest}
use Rattle.fault_lists.specs.FailureModels.{CanFail, RestHolds}
use Rattle.fault_lists.proofs.FailureModels.Laws.{fail_prone, model_told, one_model, same_model, core_for, for_core, held_normal, fails_described}
use Rattle.fault_files.specs.FaultFiles.{read_faults, write_faults, write_faults_from, fault_bytes}
use Rattle.fault_files.specs.FaultFiles.Laws.{faults_written, faults_read}
use Rattle.convert_files.specs.ConvertFiles.{write_table_from, table_file, fault_file, convert_file}
use Rattle.convert_files.specs.ConvertFiles.Laws.{faults_made, table_made, there_and_back}
use Rattle.promises.specs.Cores.{CoresOfCall}
use Rattle.promises.specs.FaultLists.{FaultsThereAndBack, TablesThereAndBack, FilesThereAndBack, FaultsConverted, TablesConverted, LargestOf, LargestOfFaults, LargestOfTable, WrittenFaultsReadBack, ReadFaultsWritten, FaultsFailProne, TablesFailProne, FaultsSameModel, TablesSameModel, NormalSameModel, CoresOfModel, SurvivorsOfModel, LargestTell, CoresOfFaults}
use Rattle.promises.specs.Back.{BackFromCores}
use Rattle.promises.proofs.Back.{back_from_cores}
use Rattle.promises.proofs.Cores.{cores_of_call}
use Rattle.promises.proofs.RoundTrip.{stands}
use Rattle.promises.proofs.Tables.{TableOf}

-- ---- there and back

pub faults_there_and_back : FaultsThereAndBack
unfolding FaultsThereAndBack
faults_there_and_back = faults_back

pub tables_there_and_back : TablesThereAndBack
unfolding TablesThereAndBack
tables_there_and_back = table_back

pub files_there_and_back : FilesThereAndBack
unfolding FilesThereAndBack
files_there_and_back = there_and_back

-- ---- what a file is converted to

pub faults_converted : FaultsConverted
unfolding FaultsConverted convert_file table_file
faults_converted s l is read =
    let made = faults_made s l read in
    (made.0, table_bytes l.n made.0, made.1, cond_true _ _ is ∙ (ap (λ (o : Outcome ReadTable). and_then o (λ u. write_table_from u.n u.sets)) read ∙ made.2), made.3, made.4)

pub tables_converted : TablesConverted
unfolding TablesConverted convert_file fault_file
tables_converted s t other read =
    let made = table_made s t read in
    (made.0, fault_bytes t.n made.0, made.1, cond_false _ _ other ∙ (ap (λ (o : Outcome ReadTable). and_then o (λ u. write_faults_from u.n u.sets)) read ∙ made.2), made.3, made.4)

-- ---- the largest groups

largest_of : (groups : List ℕ) → LargestOf groups (largest groups)
largest_of groups = record {
  exactly = λ g. (
    (λ e. (largest_elem groups g e, λ h f p. eqb-true h g (true_of (eqb h g) (λ ne. largest_alone groups g e h f p (eqb-false h g ne))))),
    (λ w. alone_largest groups g w.0 (λ h f p ne. ne (w.1 h f p))),
  );
  rising = largest_rising groups;
}

-- a list that is given is that of the largest groups, of groups within the frame
faults_given : (n : ℕ) (groups list : List ℕ) → fault_list n groups ≡ yields list → list ≡ largest groups
unfolding fault_list
faults_given n groups list e = sym (same_result (first_result (table_from_faults n groups) (λ table. yields (largest groups)) e).2)

table_given : (n : ℕ) (sets list : List ℕ) → faults_from_table n sets ≡ yields list → Accepted n sets × (list ≡ largest (rests n sets))
unfolding faults_from_table
table_given n sets list e =
    let first = first_result (normal_table n sets) (λ table. yields (largest (rests n table))) e in
    let w = table_accepted n sets first.0 first.1 in
    let a = w.0 in (
      a,
      sym (same_result first.2)
          ∙ (ap (λ (l : List ℕ). largest (rests n l)) w.1 ∙ (normal_largest n sets a ∙ sym (rests_largest n a.high sets (sets_below n sets a)))),
    )

pub largest_of_faults : LargestOfFaults
unfolding LargestOfFaults
largest_of_faults n groups list e = rw (faults_given n groups list e) (largest_of groups)

pub largest_of_table : LargestOfTable
unfolding LargestOfTable
largest_of_table n sets list e = rw (table_given n sets list e).1 (largest_of (rests n sets))

-- ---- read back as written

pub written_faults_read_back : WrittenFaultsReadBack
unfolding WrittenFaultsReadBack write_faults
written_faults_read_back n groups start old new r size w e =
    let there = stands (write_faults n groups) start old new r size w e in
    let list = first_result (fault_list n groups) (λ l. yields (fault_bytes n l)) there.are_due in (
      list.0,
      list.1,
      ap read_faults (ap (take size) there.from_start ∙ (take_at there.bytes (drop (start + size) old) size there.many ∙ sym (same_result list.2))) ∙ faults_written n groups list.1,
    )

pub read_faults_written : ReadFaultsWritten
unfolding ReadFaultsWritten write_faults
read_faults_written s t e = ap (λ (o : Outcome (List ℕ)). and_then o (λ l. yields (fault_bytes t.n l))) (faults_read s e).0

-- ---- failure models

pub faults_fail_prone : FaultsFailProne
unfolding FaultsFailProne fault_list
faults_fail_prone n groups list e =
    let made = first_result (table_from_faults n groups) (λ table. yields (largest groups)) e in
    rw (faults_given n groups list e) (fail_prone n groups (groups_below n groups (from_faults n groups made.1).checked))

pub tables_fail_prone : TablesFailProne
unfolding TablesFailProne
tables_fail_prone n sets list e =
    let w = table_given n sets list e in
    let a = w.0 in
    rw w.1
    (same_model (λ f. subst (λ (l : List ℕ). CanFail (rests n sets) f ↔ RestHolds n l f) (rests_rests n a.high sets (sets_below n sets a)) (one_model n (rests n sets) (rests_below n sets) a.high f))
    (fail_prone n (rests n sets) (rests_below n sets)))

-- a survivor set of the normal table or of the sets that it is made of
rest_normal : (n : ℕ) (sets : List ℕ) → n ≤ 64 → Below n sets → (f : ℕ) → RestHolds n (normal sets) f ↔ RestHolds n sets f
rest_normal n sets high below f =
    let held = held_normal n high sets below (outside n f) in
    ((λ r. (r.0, sym held ∙ r.1)), (λ r. (r.0, held ∙ r.1)))

pub faults_same_model : FaultsSameModel
unfolding FaultsSameModel
faults_same_model n groups table e f =
    let w = from_faults n groups e in
    let high = w.accepted.high in
    let one = one_model n groups (groups_below n groups w.checked) high f in
    let normal_table_law = rest_normal n (rests n groups) high (rests_below n groups) f in
    rw w.is ((λ can. normal_table_law.1 (one.0 can)), (λ r. one.1 (normal_table_law.0 r)))

-- a list in normal form, whose rests are the normal table of the groups' rests
record Listed (n : ℕ) (groups list : List ℕ) : Type 0 where
  accepted : Accepted n (rests n groups)
  below : Below n groups
  own : (g : ℕ) → elem g list ≡ true → elem g groups ≡ true
  table : rests n list ≡ normal (rests n groups)

listed : (n : ℕ) (groups list : List ℕ) → fault_list n groups ≡ yields list → Listed n groups list
unfolding fault_list
listed n groups list e =
    let made = first_result (table_from_faults n groups) (λ table. yields (largest groups)) e in
    let w = from_faults n groups made.1 in
    let a = w.accepted in
    let below = groups_below n groups w.checked in
    let is = faults_given n groups list e in
    record {
      accepted = a;
      below = below;
      own = λ g h. largest_elem groups g (ap (elem g) (sym is) ∙ h);
      table = ap (rests n) (is ∙ largest_rests n a.high groups below) ∙ rests_rests n a.high (normal (rests n groups)) (sets_below n (normal (rests n groups)) (accepted_normal n (rests n groups) a));
    }

pub normal_same_model : NormalSameModel
unfolding NormalSameModel
normal_same_model n groups list e f =
    let l = listed n groups list e in
    let high = l.accepted.high in
    let one = one_model n groups l.below high f in
    let other : CanFail list f ↔ RestHolds n (normal (rests n groups)) f =
    subst (λ (s : List ℕ). CanFail list f ↔ RestHolds n s f) l.table (one_model n list (λ g h. l.below g (l.own g h)) high f) in
    let normal_table_law = rest_normal n (rests n groups) high (rests_below n groups) f in
    ((λ can. other.1 (normal_table_law.1 (one.0 can))), (λ can. one.1 (normal_table_law.0 (other.0 can))))

pub tables_same_model : TablesSameModel
unfolding TablesSameModel
tables_same_model n sets list e f =
    let a = (table_given n sets list e).0 in
    let below = sets_below n sets a in
    let list_normal = (table_given n sets list e).1 ∙ rests_largest n a.high sets below in
    let table = ap (rests n) list_normal ∙ rests_rests n a.high (normal sets) (sets_below n (normal sets) (accepted_normal n sets a)) in
    let one : CanFail list f ↔ RestHolds n (normal sets) f =
    subst (λ (s : List ℕ). CanFail list f ↔ RestHolds n s f) table (one_model n list (subst (Below n) (sym list_normal) (rests_below n (normal sets))) a.high f) in
    let normal_table_law = rest_normal n sets a.high below f in
    ((λ can. normal_table_law.0 (one.0 can)), (λ r. one.1 (normal_table_law.1 r)))

pub largest_tell : LargestTell
unfolding LargestTell NormalSameModel
largest_tell n groups list e Φ faulty told = record {
  within = told.within;
  in_group = λ φ. (normal_same_model n groups list e (faulty φ)).0 (told.in_group φ);
  occurs = λ g h. told.occurs g ((listed n groups list e).own g h);
}

-- the table of a fault list is that of its rests
made_table : (n : ℕ) (groups : List ℕ) {t : Complete} → complete_from_faults n groups ≡ yields t → TableOf n (rests n groups) t
unfolding complete_from_faults
made_table n groups made =
    let first = first_result (table_from_faults n groups) (λ table. yields (with_cores n table)) made in
    let w = from_faults n groups first.1 in
    record { accepted = w.accepted; is = sym (same_result first.2) ∙ ap (with_cores n) w.is }

pub cores_of_faults : CoresOfFaults
unfolding CoresOfFaults CoresOfCall complete_table with_cores
cores_of_faults n groups list t e made Φ faulty told =
    let l = listed n groups list e in
    let sets = rests n groups in
    let is = (made_table n groups made).is in
    let given : complete_table n sets ≡ yields t = ap (λ (o : Outcome (List ℕ)). and_then o (λ table. yields (with_cores n table))) (accepted_table n sets l.accepted) ∙ ap yields (sym is) in
    let described = fails_described n list (λ g h. l.below g (l.own g h)) l.accepted.high faulty told in
    cores_of_call n sets t given Φ (λ φ. outside n (faulty φ)) (subst (λ (s : List ℕ). Describes n s (λ φ. outside n (faulty φ))) (l.table ∙ sym (ap (λ (c : Complete). c.sets) is)) described)

pub cores_of_model : CoresOfModel
unfolding CoresOfModel CoresOfFaults LargestTell complete_from_faults fault_list
cores_of_model n groups t made c =
    let first = first_result (table_from_faults n groups) (λ table. yields (with_cores n table)) made in
    let w = from_faults n groups first.1 in
    let e = ap (λ (o : Outcome (List ℕ)). and_then o (λ table. yields (largest groups))) first.1 in
    let told = largest_tell n groups (largest groups) e _ _ (model_told n groups (groups_below n groups w.checked)) in
    let says = (cores_of_faults n groups (largest groups) t e made _ _ told).cores c in
    ((λ h. core_for n w.accepted.high (CanFail groups) c (says.0 h)), (λ core. says.1 (for_core n w.accepted.high (CanFail groups) c core)))

pub survivors_of_model : SurvivorsOfModel
unfolding SurvivorsOfModel BackFromCores with_cores
survivors_of_model n groups t made s =
    let w = made_table n groups made in
    let table = normal (rests n groups) in
    let a = accepted_normal n (rests n groups) w.accepted in
    let back = survivor_sets_dual n (cores table) table (back_from_cores n (rests n groups) w.accepted) in
    let word : s < 2 ^ n → s < 2 ^ 64 = λ lt. lt_of_lt_of_le lt (pow_mono {i = n} {j = 64} a.high) in
    rw w.is (
      (λ h.
          let lt = sets_below n table a s h in
          let min = dual_minimal (cores table) back.0 s (ap (elem s) (sym back.1) ∙ h) in
          record { within = lt; all_met = λ c e. hits_meets (cores table) s c min.all_met e; alone = critical_all (cores table) s (word lt) (minimal_critical (cores table) s (word lt) min) }),
      (λ r.
          let lt = word r.within in
          ap (elem s) back.1 ∙ minimal_dual (cores table) back.0 s (critical_minimal (cores table) s lt (meets_hits (cores table) s r.all_met) (all_critical (cores table) s lt r.alone))),
    )
