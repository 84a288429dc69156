-- What a log gives are the managers that return.
use Rattle.std.proofs.Common.{◌≡◌, ◌+◌, ◌<◌, ℕ, zero, suc, Bool, true, false, cond, List, [], ◌∷◌, ◌++◌, replicate, length, Option, Some, None, Result, Ok, Err, refl, sym, ap, ◌∙◌, subst, arith}
use Rattle.std.specs.List.{slice_get}
use Rattle.hk_base.specs.declared.view.View.{View}
use Rattle.hk_log.specs.declared.entry.Founding.{Founding}
use Rattle.hk_log.specs.declared.entry.Entry.{Entry}
use Rattle.hk_log.specs.declared.entry.Entry.TheVariants as entry
use Rattle.hk_log.specs.declared.checks.TheConstants.{HEADER}
use Rattle.hk_log.specs.Records.{check_of, framed, body_bytes, starts_behind, record_starts}
use Rattle.hk_manager.specs.declared.fault.ManagerFault.{ManagerFault}
use Rattle.hk_manager.specs.Manager.{ManagerState}
use Rattle.hk_manager.specs.Sound.{manager_new}
use Rattle.hk_return.specs.Log.{returned}
use Rattle.hk_durable.specs.Laws.{steps_in}
use Rattle.hk_durable.specs.Replays.{noted, taken_up, all_taken_up}
use Rattle.hk_durable.specs.Replays as replays
use Rattle.hk_durable.proofs.Replaying.{replay_is_return}
use Rattle.hk_restore.specs.declared.fault.RestoreFault.{RestoreFault}
use Rattle.hk_restore.specs.declared.fault.RestoreFault.TheVariants.{DoesNotReplay}
use Rattle.hk_restore.specs.declared.group.Terms.{Terms}
use Rattle.hk_restore.specs.declared.group.RestoredGroup.{RestoredGroup}
use Rattle.hk_restore.specs.declared.group.Restored.{Restored}
use Rattle.hk_restore.specs.Restoring.{SoFar, founding_fault, begun, unless, with_managers, stepped, behind_entry, behind_entries, behind_records, up_to_fault, returns, with_untils, restored_with}
use Rattle.hk_restore.specs.Laws.{entries_of, since_founding, RestoredManagersReturn}

-- ---- lists
starts_from : (place : ℕ) (before : List ℕ) (records : List (List Entry)) → length (starts_behind place before records) ≡ length records
starts_from place before [] = refl
starts_from place before (r ∷ records) = ap suc (starts_from (place + length (framed before (body_bytes r))) (check_of before (body_bytes r)) records)

-- each record has a place at which it begins
pub starts_long : (records : List (List Entry)) → length (record_starts records) ≡ length records
starts_long records = starts_from (length HEADER) HEADER records

since_more : (since entries rest : List Entry) → since_founding since (entries ++ rest) ≡ since_founding (since_founding since entries) rest
since_more since [] rest = refl
since_more since (entry.Founded founding ∷ entries) rest = since_more [] entries rest
since_more since (entry.Open ∷ entries) rest = since_more (since ++ entry.Open ∷ []) entries rest
since_more since (entry.Propose shard base change ∷ entries) rest = since_more (since ++ entry.Propose shard base change ∷ []) entries rest
since_more since (entry.Receive shard letter ∷ entries) rest = since_more (since ++ entry.Receive shard letter ∷ []) entries rest
since_more since (entry.Bound actor ticket ∷ entries) rest = since_more (since ++ entry.Bound actor ticket ∷ []) entries rest

copies : (k i : ℕ) (m : ManagerState) → i < k → slice_get (replicate k m) i ≡ Some m
copies zero i m low = absurd (omega (arith, low))
copies (suc k) zero m low = refl
copies (suc k) (suc i) m low = copies k i m (omega (arith, low))

-- one entry more
taken_more : (entries : List Entry) (e : Entry) (first between last : List ManagerState) → all_taken_up entries first ≡ Ok between → taken_up e between ≡ Ok last → all_taken_up (entries ++ e ∷ []) first ≡ Ok last
taken_more [] e first between last all one =
    let same : first ≡ between = cc in
    ap (replays.up_to_fault (λ m. Ok m)) (subst (λ (m : List ManagerState). taken_up e m ≡ Ok last) (sym same) one)
taken_more (x ∷ entries) e first between last all one = by (λ next goes. taken_more entries e next between last goes one) (taken_up x first) all
  where
    by : ((next : List ManagerState) → all_taken_up entries next ≡ Ok between → all_taken_up (entries ++ e ∷ []) next ≡ Ok last) → (r : Result (List ManagerState) ManagerFault) → replays.up_to_fault (λ m. all_taken_up entries m) r ≡ Ok between →
        replays.up_to_fault (λ m. all_taken_up (entries ++ e ∷ []) m) r ≡ Ok last
    by rest (Ok next) goes = rest next goes
    by rest (Err fault) goes = absurd cc

module _ (t : Terms) (view : View) where
  abbrev new : List ManagerState
  new = replicate 8 (manager_new t.place t.managers view t.lease)

  -- the managers of the group so far are those of what stands behind the last founding
  abbrev Follows : List Entry → Option RestoredGroup → Type 0
  Follows since None = since ≡ []
  Follows since (Some g) = all_taken_up since new ≡ Ok g.managers

  -- ---- an entry
  behind_founding : (f : Founding) (o : Option RestoreFault) (group : Option RestoredGroup) → unless o (begun t view f) ≡ Ok group → Follows [] group
  behind_founding f (Some fault) group is = absurd cc
  behind_founding f None group is = let same : Some (begun t view f) ≡ group = cc in subst (Follows []) same refl

  behind_opening : (at : ℕ) (b : Bool) (since : List Entry) (g : RestoredGroup) (group : Option RestoredGroup) → cond b (Err (DoesNotReplay at)) (Ok (Some (record g { is_open = true }))) ≡ Ok group → Follows since (Some g) → Follows (since ++ entry.Open ∷ []) group
  behind_opening at true since g group is follows = absurd cc
  behind_opening at false since g group is follows =
      let same : Some (record g { is_open = true }) ≡ group = cc in
      subst (Follows (since ++ entry.Open ∷ [])) same (taken_more since entry.Open new g.managers g.managers follows refl)

  behind_managers : (at : ℕ) (since : List Entry) (e : Entry) (g : RestoredGroup) (r : Result (List ManagerState) ManagerFault) (group : Option RestoredGroup) → taken_up e g.managers ≡ r → with_managers at g r ≡ Ok group → Follows since (Some g) → Follows (since ++ e ∷ []) group
  behind_managers at since e g (Ok managers) group step is follows =
      let same : Some (record g { managers = managers }) ≡ group = cc in
      subst (Follows (since ++ e ∷ [])) same (taken_more since e new g.managers managers follows step)
  behind_managers at since e g (Err fault) group step is follows = absurd cc

  behind_if_open : (at : ℕ) (b : Bool) (since : List Entry) (e : Entry) (g : RestoredGroup) (group : Option RestoredGroup) → cond b (with_managers at g (taken_up e g.managers)) (Err (DoesNotReplay at)) ≡ Ok group → Follows since (Some g) → Follows (since ++ e ∷ []) group
  behind_if_open at true since e g group is follows = behind_managers at since e g (taken_up e g.managers) group refl is follows
  behind_if_open at false since e g group is follows = absurd cc

  behind_step : (at : ℕ) (since : List Entry) (e : Entry) (o group : Option RestoredGroup) → stepped at e o ≡ Ok group → Follows since o → Follows (since ++ e ∷ []) group
  behind_step at since e None group is follows = absurd cc
  behind_step at since e (Some g) group is follows = behind_if_open at g.is_open since e g group is follows

  module _ (at : ℕ) (since : List Entry) (group : Option RestoredGroup) where
    one : (e : Entry) (rest : List Entry) (o : Option RestoredGroup) → behind_entry t view at e o ≡ Ok group → Follows since o → (since' : List Entry) × Follows since' group × (since_founding since (e ∷ rest) ≡ since_founding since' rest)
    one (entry.Founded f) rest o is follows = ([], behind_founding f (founding_fault t f) group is, refl)
    one entry.Open rest None is follows = absurd cc
    one entry.Open rest (Some g) is follows = (since ++ entry.Open ∷ [], behind_opening at g.is_open since g group is follows, refl)
    one (entry.Bound actor ticket) rest None is follows = absurd cc
    one (entry.Bound actor ticket) rest (Some g) is follows =
        let same : Some (record g { bindings = g.bindings ++ record { actor = actor; ticket = ticket } ∷ [] }) ≡ group = cc in
        (since ++ entry.Bound actor ticket ∷ [], subst (Follows (since ++ entry.Bound actor ticket ∷ [])) same (taken_more since (entry.Bound actor ticket) new g.managers g.managers follows refl), refl)
    one (entry.Propose shard base change) rest o is follows = (since ++ entry.Propose shard base change ∷ [], behind_step at since (entry.Propose shard base change) o group is follows, refl)
    one (entry.Receive shard letter) rest o is follows = (since ++ entry.Receive shard letter ∷ [], behind_step at since (entry.Receive shard letter) o group is follows, refl)

  -- ---- entries and records
  entries_follow : (at : ℕ) (entries since : List Entry) (before after : Option RestoredGroup) → behind_entries t view at entries before ≡ Ok after → Follows since before → Follows (since_founding since entries) after
  entries_follow at [] since before after is follows = let same : before ≡ after = cc in subst (Follows since) same follows
  entries_follow at (e ∷ entries) since before after is follows = by (λ behind next goes so_far. entries_follow at entries behind next after goes so_far) (behind_entry t view at e before) refl is
    where
      by : ((behind : List Entry) (next : Option RestoredGroup) → behind_entries t view at entries next ≡ Ok after → Follows behind next → Follows (since_founding behind entries) after) → (r : SoFar) → behind_entry t view at e before ≡ r →
          up_to_fault (λ next. behind_entries t view at entries next) r ≡ Ok after → Follows (since_founding since (e ∷ entries)) after
      by rest (Ok next) step goes =
          let here = one at since next e entries before step follows in
          subst (λ (l : List Entry). Follows l after) (sym here.2) (rest here.0 next goes here.1)
      by rest (Err fault) step goes = absurd cc

  records_follow : (records : List (List Entry)) (starts : List ℕ) (since : List Entry) (before after : Option RestoredGroup) → length starts ≡ length records → behind_records t view records starts before ≡ Ok after → Follows since before → Follows (since_founding since (entries_of records)) after
  records_follow [] starts since before after long is follows = let same : before ≡ after = cc in subst (Follows since) same follows
  records_follow (r ∷ records) [] since before after long is follows = absurd (omega (arith, long))
  records_follow (r ∷ records) (at ∷ starts) since before after long is follows =
      by (λ behind next goes so_far. records_follow records starts behind next after (omega (arith, long)) goes so_far) (behind_entries t view at r before) refl is
    where
      by : ((behind : List Entry) (next : Option RestoredGroup) → behind_records t view records starts next ≡ Ok after → Follows behind next → Follows (since_founding behind (entries_of records)) after) → (x : SoFar) → behind_entries t view at r before ≡ x →
          up_to_fault (λ next. behind_records t view records starts next) x ≡ Ok after → Follows (since_founding since (r ++ entries_of records)) after
      by rest (Ok next) step goes =
          subst (λ (l : List Entry). Follows l after) (sym (since_more since r (entries_of records))) (rest (since_founding since r) next goes (entries_follow at r since before next step follows))
      by rest (Err fault) step goes = absurd cc

  -- ---- what is found
  found_returns : (since : List Entry) (o : Option RestoredGroup) (g : RestoredGroup) → with_untils o ≡ Some g → Follows since o → (shard : ℕ) → shard < 8 → slice_get g.managers shard ≡ Some (returned (manager_new t.place t.managers view t.lease) (steps_in shard since))
  found_returns since None g is follows shard low = absurd cc
  found_returns since (Some own) g is follows shard low =
      let same : returns own ≡ g = cc in
      ap (λ (x : RestoredGroup). slice_get x.managers shard) (sym same)
      ∙ replay_is_return since new own.managers follows shard (manager_new t.place t.managers view t.lease) (copies 8 shard (manager_new t.place t.managers view t.lease) low)

  of_result : (records : List (List Entry)) (x : SoFar) (found : Restored) → behind_records t view records (record_starts records) None ≡ x → restored_with (length records) x ≡ Ok found → (g : RestoredGroup) → found.group ≡ Some g → (shard : ℕ) → shard < 8 →
      slice_get g.managers shard ≡ Some (returned (manager_new t.place t.managers view t.lease) (steps_in shard (since_founding [] (entries_of records))))
  of_result records (Ok group) found goes is g there shard low =
      let same : record { group = with_untils group; records = length records } ≡ found = cc in
      found_returns (since_founding [] (entries_of records)) group g (ap (λ (r : Restored). r.group) same ∙ there)
      (records_follow records (record_starts records) [] None group (starts_long records) goes refl) shard low
  of_result records (Err fault) found goes is g there shard low = absurd cc

pub restored_managers_return : RestoredManagersReturn
restored_managers_return t view records found is g there shard low = of_result t view records (behind_records t view records (record_starts records) None) found refl is g there shard low
