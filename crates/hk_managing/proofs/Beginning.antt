-- What a log gives is what its entries tell of the office.
use Rattle.std.proofs.Common.{◌≡◌, ◌≤◌, ℕ, ◌==◌, ◌&&◌, not, Bool, true, false, cond, List, [], ◌∷◌, ◌++◌, length, Option, None, Some, Result, Ok, Err, refl, sym, ap, ◌∙◌, subst, arith}
use Rattle.std.specs.Prelude.{⊤}
use Rattle.std.proofs.lemmas.Bool.{eqb-true}
use Rattle.hk_base.specs.declared.view.View.{View}
use Rattle.hk_fields.specs.declared.hosts.HostTickets.{HostTickets}
use Rattle.hk_log.specs.declared.entry.Founding.{Founding}
use Rattle.hk_log.specs.declared.entry.Entry.{Entry}
use Rattle.hk_log.specs.declared.entry.Entry.TheVariants as entry
use Rattle.hk_log.specs.Records.{record_starts}
use Rattle.hk_disk.specs.Writing.{IsSureLog}
use Rattle.hk_manager.specs.declared.fault.ManagerFault.{ManagerFault}
use Rattle.hk_manager.specs.Manager.{ManagerState}
use Rattle.hk_durable.specs.Replays.{taken_up}
use Rattle.hk_roll.specs.declared.binding.Binding.{Binding}
use Rattle.hk_roll.specs.Rolls.{Entries, with_bound, replayed}
use Rattle.hk_stage.specs.declared.stage.Stage.TheVariants as stages
use Rattle.hk_restore.specs.declared.fault.RestoreFault.{RestoreFault}
use Rattle.hk_restore.specs.declared.fault.RestoreFault.TheVariants.{DoesNotReplay, OfHost, OtherTerms}
use Rattle.hk_restore.specs.declared.group.Terms.{Terms}
use Rattle.hk_restore.specs.declared.group.RestoredGroup.{RestoredGroup}
use Rattle.hk_restore.specs.declared.group.Restored.{Restored}
use Rattle.hk_restore.specs.Restoring.{SoFar, is_of_host, has_terms, founding_fault, begun, unless, with_managers, stepped, behind_entry, behind_entries, behind_records, up_to_fault, with_untils, restored_with, restored}
use Rattle.hk_restore.specs.Laws.{entries_of}
use Rattle.hk_restore.proofs.Returning.{starts_long}
use Rattle.hk_office.specs.Founding.{roll_of}
use Rattle.hk_office.specs.Laws.{Logged, with_entry, with_entries, logged_of}
use Rattle.hk_office.specs.Office.{hosts_of}
use Rattle.hk_office.specs.Stages.{stage_logged}
use Rattle.hk_managing.specs.declared.begin.Begun.{Begun}
use Rattle.hk_managing.specs.Begins.{group_log, office_by, IsBegun, Begins}
use Rattle.hk_managing.specs.Turns.{nothing_logged, LogTells}
use Rattle.hk_managing.proofs.Telling.{told_more}

-- what a group tells of its office
abbrev told_by : Option RestoredGroup → Logged
told_by None = nothing_logged
told_by (Some g) = record { stage = stage_logged (Some g.founding) g.is_open; roll = replayed (roll_of g.founding.hosts) g.bindings }

replayed_more : (roll : Entries) (xs ys : List Binding) → replayed roll (xs ++ ys) ≡ replayed (replayed roll xs) ys
replayed_more roll [] ys = refl
replayed_more roll (x ∷ xs) ys = replayed_more (with_bound roll x) xs ys

-- a group that tells this roll
abbrev with_roll : RestoredGroup → Entries → Logged
with_roll g r = record { stage = stage_logged (Some g.founding) g.is_open; roll = r }

module _ (t : Terms) (view : View) where
  -- its hosts are as many as there are managers
  abbrev AreHosts : Option RestoredGroup → Type 0
  AreHosts None = ⊤
  AreHosts (Some g) = length g.founding.hosts ≡ t.managers

  -- what the entries so far tell is what the group so far tells
  record Follows (l : Logged) (group : Option RestoredGroup) : Type 0 where
    pub tells : l ≡ told_by group
    pub hosts : AreHosts group

  -- ---- an entry
  second_holds : (a b : Bool) → (a && b) ≡ true → b ≡ true
  second_holds true b e = e
  second_holds false b e = absurd cc

  of_host : (f : Founding) → founding_fault t f ≡ None → length f.hosts ≡ t.managers
  of_host f none = at (is_of_host t f) refl none
    where
      at : (b : Bool) → is_of_host t f ≡ b → cond (not b) (Some (OfHost f.place (length f.hosts))) (cond (not (has_terms t f)) (Some (OtherTerms f.lease f.skew)) None) ≡ None → length f.hosts ≡ t.managers
      at true is e = eqb-true (length f.hosts) t.managers (second_holds (f.place == t.place) (length f.hosts == t.managers) is)
      at false is e = absurd cc

  behind_founding : (f : Founding) (o : Option RestoreFault) (group : Option RestoredGroup) → (o ≡ None → length f.hosts ≡ t.managers) → unless o (begun t view f) ≡ Ok group → Follows (record { stage = stages.Founded f.number; roll = roll_of f.hosts }) group
  behind_founding f (Some fault) group hosts is = absurd cc
  behind_founding f None group hosts is =
      let same : Some (begun t view f) ≡ group = cc in
      subst (Follows (record { stage = stages.Founded f.number; roll = roll_of f.hosts })) same (record { tells = refl; hosts = hosts refl })

  behind_opening : (at : ℕ) (b : Bool) (g : RestoredGroup) (group : Option RestoredGroup) → g.is_open ≡ b → cond b (Err (DoesNotReplay at)) (Ok (Some (record g { is_open = true }))) ≡ Ok group → length g.founding.hosts ≡ t.managers →
      Follows (with_entry (told_by (Some g)) entry.Open) group
  behind_opening at true g group opens is hosts = absurd cc
  behind_opening at false g group opens is hosts =
      let same : Some (record g { is_open = true }) ≡ group = cc in
      subst (Follows (with_entry (told_by (Some g)) entry.Open)) same
      (record {
        tells = ap (λ (b : Bool). with_entry (record { stage = stage_logged (Some g.founding) b; roll = replayed (roll_of g.founding.hosts) g.bindings }) entry.Open) opens;
        hosts = hosts;
      })

  behind_managers : (at : ℕ) (g : RestoredGroup) (r : Result (List ManagerState) ManagerFault) (group : Option RestoredGroup) → with_managers at g r ≡ Ok group → length g.founding.hosts ≡ t.managers → Follows (told_by (Some g)) group
  behind_managers at g (Ok managers) group is hosts =
      let same : Some (record g { managers = managers }) ≡ group = cc in
      subst (Follows (told_by (Some g))) same (record { tells = refl; hosts = hosts })
  behind_managers at g (Err fault) group is hosts = absurd cc

  behind_if_open : (at : ℕ) (b : Bool) (e : Entry) (g : RestoredGroup) (group : Option RestoredGroup) → cond b (with_managers at g (taken_up e g.managers)) (Err (DoesNotReplay at)) ≡ Ok group → length g.founding.hosts ≡ t.managers →
      Follows (told_by (Some g)) group
  behind_if_open at true e g group is hosts = behind_managers at g (taken_up e g.managers) group is hosts
  behind_if_open at false e g group is hosts = absurd cc

  behind_step : (at : ℕ) (e : Entry) (o group : Option RestoredGroup) → stepped at e o ≡ Ok group → AreHosts o → Follows (told_by o) group
  behind_step at e None group is hosts = absurd cc
  behind_step at e (Some g) group is hosts = behind_if_open at g.is_open e g group is hosts

  one : (at : ℕ) (e : Entry) (o group : Option RestoredGroup) → behind_entry t view at e o ≡ Ok group → AreHosts o → Follows (with_entry (told_by o) e) group
  one at (entry.Founded f) o group is hosts =
      behind_founding f (founding_fault t f) group (of_host f) is
  one at entry.Open None group is hosts = absurd cc
  one at entry.Open (Some g) group is hosts = behind_opening at g.is_open g group refl is hosts
  one at (entry.Bound actor ticket) None group is hosts = absurd cc
  one at (entry.Bound actor ticket) (Some g) group is hosts =
      let b : Binding = record { actor = actor; ticket = ticket } in
      let same : Some (record g { bindings = g.bindings ++ b ∷ [] }) ≡ group = cc in
      subst (Follows (with_entry (told_by (Some g)) (entry.Bound actor ticket))) same
      (record {
        tells = ap (λ (r : Entries). with_roll g r) (sym (replayed_more (roll_of g.founding.hosts) g.bindings (b ∷ [])));
        hosts = hosts;
      })
  one at (entry.Propose shard base change) o group is hosts = behind_step at (entry.Propose shard base change) o group is hosts
  one at (entry.Receive shard letter) o group is hosts = behind_step at (entry.Receive shard letter) o group is hosts

  -- ---- entries and records
  entries_follow : (at : ℕ) (entries : List Entry) (l : Logged) (before after : Option RestoredGroup) → behind_entries t view at entries before ≡ Ok after → Follows l before → Follows (with_entries l entries) after
  entries_follow at [] l before after is follows = let same : before ≡ after = cc in subst (Follows l) same follows
  entries_follow at (e ∷ entries) l before after is follows =
      by (λ next goes so_far. entries_follow at entries (with_entry l e) next after goes so_far) (behind_entry t view at e before) refl is
    where
      by : ((next : Option RestoredGroup) → behind_entries t view at entries next ≡ Ok after → Follows (with_entry l e) next → Follows (with_entries (with_entry l e) entries) after) → (r : SoFar) → behind_entry t view at e before ≡ r →
          up_to_fault (λ next. behind_entries t view at entries next) r ≡ Ok after → Follows (with_entries (with_entry l e) entries) after
      by rest (Ok next) step goes =
          rest next goes (subst (λ (x : Logged). Follows (with_entry x e) next) (sym follows.tells) (one at e before next step follows.hosts))
      by rest (Err fault) step goes = absurd cc

  records_follow : (records : List (List Entry)) (starts : List ℕ) (l : Logged) (before after : Option RestoredGroup) → length starts ≡ length records → behind_records t view records starts before ≡ Ok after → Follows l before →
      Follows (with_entries l (entries_of records)) after
  records_follow [] starts l before after long is follows = let same : before ≡ after = cc in subst (Follows l) same follows
  records_follow (r ∷ records) [] l before after long is follows = absurd (omega (arith, long))
  records_follow (r ∷ records) (at ∷ starts) l before after long is follows =
      by (λ next goes so_far. records_follow records starts (with_entries l r) next after (omega (arith, long)) goes so_far) (behind_entries t view at r before) refl is
    where
      by : ((next : Option RestoredGroup) → behind_records t view records starts next ≡ Ok after → Follows (with_entries l r) next → Follows (with_entries (with_entries l r) (entries_of records)) after) → (x : SoFar) → behind_entries t view at r before ≡ x →
          up_to_fault (λ next. behind_records t view records starts next) x ≡ Ok after → Follows (with_entries l (r ++ entries_of records)) after
      by rest (Ok next) step goes =
          subst (λ (x : Logged). Follows x after) (sym (told_more l r (entries_of records))) (rest next goes (entries_follow at r l before next step follows))
      by rest (Err fault) step goes = absurd cc

  untils_follow : (l : Logged) (o : Option RestoredGroup) → Follows l o → Follows l (with_untils o)
  untils_follow l None follows = follows
  untils_follow l (Some g) follows = record { tells = follows.tells; hosts = follows.hosts }

  of_result : (records : List (List Entry)) (x : SoFar) (found : Restored) → behind_records t view records (record_starts records) None ≡ x → restored_with (length records) x ≡ Ok found → Follows (with_entries nothing_logged (entries_of records)) found.group
  of_result records (Ok group) found goes is =
      let same : record { group = with_untils group; records = length records } ≡ found = cc in
      subst (λ (r : Restored). Follows (with_entries nothing_logged (entries_of records)) r.group) same
      (untils_follow (with_entries nothing_logged (entries_of records)) group
      (records_follow records (record_starts records) nothing_logged None group (starts_long records) goes (record { tells = refl; hosts = tt })))
  of_result records (Err fault) found goes is = absurd cc

  found_follows : (records : List (List Entry)) (found : Restored) → restored t view records ≡ Ok found → Follows (with_entries nothing_logged (entries_of records)) found.group
  found_follows records found is = of_result records (behind_records t view records (record_starts records) None) found refl is

-- ---- the office that begins by it
office_tells : (o : Option RestoredGroup) (t : Terms) (drawn : HostTickets) (now : ℕ) → told_by o ≡ logged_of (office_by t drawn (group_log o) now)
office_tells None t drawn now = refl
office_tells (Some g) t drawn now = refl

pub log_tells : (t : Terms) (drawn : HostTickets) (first : View) (now : ℕ) (records : List (List Entry)) (found : Restored) → restored t first records ≡ Ok found → LogTells records (office_by t drawn (group_log found.group) now)
log_tells t drawn first now records found is = (found_follows t first records found is).tells ∙ office_tells found.group t drawn now

few_in : (o : Option RestoredGroup) (t : Terms) (view : View) → AreHosts t view o → t.managers ≤ 9 → length (hosts_of (group_log o).founding) ≤ 9
few_in None t view hosts few = omega arith
few_in (Some g) t view hosts few = omega (arith, hosts, few)

pub few_hosts : (t : Terms) (first : View) (records : List (List Entry)) (found : Restored) → restored t first records ≡ Ok found → t.managers ≤ 9 → length (hosts_of (group_log found.group).founding) ≤ 9
few_hosts t first records found is few = few_in found.group t first (found_follows t first records found is).hosts few

-- ---- what begins by records that are sure
pub begins_by : {F : Type 0} (holds is_sure : F → List ℕ → Type 0) (t : Terms) (drawn : HostTickets) (first : View) (now : ℕ) (file : F) (check : List ℕ) (begun : Begun) (records : List (List Entry)) → IsSureLog holds is_sure file check records →
    IsBegun (Ok begun) t drawn first now (restored t first records) → Begins holds is_sure t drawn first now file check begun
begins_by holds is_sure t drawn first now file check begun records sure (found, gives, begins) = record {
  records = records;
  sure = sure;
  found = found;
  gives = gives;
  begins = begins;
  tells = subst (λ (b : Begun). LogTells records b.office) (sym begins) (log_tells t drawn first now records found gives);
}
