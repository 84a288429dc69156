-- A step of a manager is one event of the machine of leases, or none.
use Rattle.std.proofs.Common.{◌≡◌, ◌≢◌, ◌<◌, ◌≤◌, ◌+◌, ℕ, List, [], ◌∷◌, ◌++◌, map, length, Bool, true, false, cond, nat_lt, min, Some, Ok, refl, sym, ap, subst, ◌∙◌, inl, inr, ⊎_elim, arith, le_refl, le_trans}
use Rattle.std.specs.List.{AllByRecursion}
use Rattle.std.proofs.lemmas.List.{length-set}
use Rattle.hk_base.specs.declared.stamp.NodeId.{NodeId}
use Rattle.hk_base.specs.declared.time.TheConstants.{MAX_TIME}
use Rattle.hk_base.specs.declared.view.View.{View}
use Rattle.hk_base.specs.declared.letter.Actor.TheVariants.{Node, Manager}
use Rattle.hk_base.specs.declared.letter.Letter.{Letter}
use Rattle.hk_base.specs.declared.letter.Body.TheVariants as Body
use Rattle.hk_lease.specs.Grants.{with_grant}
use Rattle.hk_lease.specs.Past.{past_answer}
use Rattle.hk_base.specs.View.{is_member}
use Rattle.hk_lease.specs.Wait.{wait}
use Rattle.hk_clocks.specs.Runs.{seen}
use Rattle.hk_manager.specs.Manager.{ManagerState}
use Rattle.hk_manager.specs.Sends.{letter_to, to_members}
use Rattle.hk_manager.specs.Steps.{ManagerStepped, sends, receives}
use Rattle.hk_council.specs.Chain.{IsChain}
use Rattle.hk_earned.specs.Machine.{Setting, State, Ask, Give, Activate, In, member, clock, next, put}
use Rattle.hk_earned.specs.Machine.Event.{Learn, TakeAsk, SendActivate}
use Rattle.hk_earned.proofs.Places.{by_put}
use Rattle.hk_earned.proofs.Parts.{Parts}
use Rattle.hk_earned.proofs.Going.{event_kept}
use Rattle.hk_world.specs.World.{WorldState, process_at, manager_at, put_manager, last_view}
use Rattle.hk_world.specs.Steps.{learned, with_manager_step}
use Rattle.hk_world.specs.Sound.{IsWorld}
use Rattle.hk_managed.proofs.Agreeing.{IsCouncil}
use Rattle.hk_managed.proofs.Places.{view_in, view_at, view_kept, epoch_within, set_same}
use Rattle.hk_managed.proofs.Growing.{parts_with}
use Rattle.hk_managed.proofs.ManagerSteps.{IsLearned, IsGrant, received}
use Rattle.hk_managed.proofs.Mirror.{Stands, stands_ask, Widens, all_plain, more_stand, NodeIn, SameAt, same_in, ManagerStands, ManagerIn, SameBy, managers_put, setting_of, IsEarned}
use Rattle.hk_managed.proofs.Facts.{managing, manager_is, manager_reads, is_live_in, reads_in, stay_out}

-- ---- views that are learned
learned_kept : (views : List View) (held : View) (e : ℕ) → e ≤ length views → view_in (learned views held) e ≡ view_in views e
learned_kept views held e low = at (nat_lt (last_view views).epoch held.epoch)
  where
    at : (b : Bool) → view_in (cond b (views ++ held ∷ []) views) e ≡ view_in views e
    at true = view_kept views (held ∷ []) e low
    at false = refl

some_view : (views : List View) → IsChain views → 1 ≤ length views
some_view [] chain = absurd chain
some_view (view ∷ views) chain = omega arith

longer : {X : Type 0} (xs ys : List X) → length xs ≤ length (xs ++ ys)
longer [] ys = omega arith
longer (x ∷ xs) ys = let h = longer xs ys in omega (arith, h)

learned_longer : (views : List View) (held : View) → length views ≤ length (learned views held)
learned_longer views held = at (nat_lt (last_view views).epoch held.epoch)
  where
    at : (b : Bool) → length views ≤ length (cond b (views ++ held ∷ []) views)
    at true = longer views (held ∷ [])
    at false = le_refl (length views)

-- a group of so many managers, whatever says so
abbrev GroupOf : WorldState → ℕ → List View → ℕ → Setting
GroupOf w founders views managers = record { views = view_in views; managers = managers; lease = w.lease; skew = w.skew; founders = founders }

module _ (w : WorldState) (sound : IsWorld w) (council : IsCouncil w) (e : IsEarned w) (m : ℕ) (g : ManagerState) (at : manager_at m w.managers ≡ Some (managing g)) where
  here : ManagerStands e.state m g
  here = subst (ManagerIn e.state m) at (e.mirrors.managers m)

  is_live : (seen e.state.clocks).live (Manager m) ≡ true
  is_live = is_live_in w e.state e.mirrors.clocks (Manager m) g.clock (manager_reads w sound m g at)

  reads : clock e.state (Manager m) ≡ g.clock
  reads = reads_in w e.state e.mirrors.clocks (Manager m) g.clock (manager_reads w sound m g at)

  module _ (s : ManagerStepped) where
    abbrev then_world : WorldState
    then_world = with_manager_step w m s

    same_many : length (put_manager m (managing s.manager) w.managers) ≡ length w.managers
    same_many = length-set w.managers m (managing s.manager)

    -- the invariant with the views that are learned then
    parts_then : (st : State) → ((j : ℕ) → st.held j ≤ length w.views) → Parts (setting_of w e.founders) st → Parts (setting_of then_world e.founders) st
    parts_then st upto p = subst (λ (n : ℕ). Parts (GroupOf w e.founders (learned w.views s.manager.held) n) st) (sym same_many)
        (parts_with (setting_of w e.founders) (view_in (learned w.views s.manager.held)) st (λ j k low. learned_kept w.views s.manager.held k (le_trans low (upto j))) p)

    nodes_then : (after : State) → ((n : NodeId) → SameAt e.state after n) → (n : NodeId) → NodeIn (length then_world.managers) after n (process_at n w.processes)
    nodes_then after same n = subst (λ (k : ℕ). NodeIn k after n (process_at n w.processes)) (sym same_many) (same_in (length w.managers) e.state after n (same n) (process_at n w.processes) (e.mirrors.nodes n))

    made_earned : (after : State) → Parts (setting_of then_world e.founders) after → after.clocks ≡ e.state.clocks → Widens e.state after → ((n : NodeId) → SameAt e.state after n) → ManagerStands after m s.manager →
        ((j : ℕ) → j ≢ m → SameBy e.state after j) → ((j : ℕ) → after.held j ≤ length then_world.views) → AllByRecursion (Stands after) s.letters → IsEarned then_world
    made_earned after parts clocks wide nodes now others upto letters = record {
      founders = e.founders;
      state = after;
      parts = parts;
      mirrors = record {
        clocks = clocks ∙ e.mirrors.clocks;
        nodes = nodes_then after nodes;
        managers = managers_put e.state after w.managers m (managing g) (managing s.manager) at e.mirrors.managers now others;
        upto = upto;
        letters = more_stand e.state after wide w.letters s.letters e.mirrors.letters letters;
      };
      first = λ n h. e.first n (subst (λ (v : View). is_member n v.members ≡ true) (learned_kept w.views s.manager.held 1 (some_view w.views council.chain)) h);
    }

    upto_then : (j : ℕ) → e.state.held j ≤ length then_world.views
    upto_then j = le_trans (e.mirrors.upto j) (learned_longer w.views s.manager.held)

    -- it holds what it held, or a later view
    module _ (then_sound : IsWorld then_world) (then_council : IsCouncil then_world) where
      later_earned : IsLearned g s → g.held.epoch < s.manager.held.epoch → IsEarned then_world
      later_earned l up = made_earned after
          (event_kept (setting_of then_world e.founders) (stay_out then_world then_sound then_council e.founders) e.state (Learn m s.manager.held.epoch)
          (is_live, let h = here.held in omega (arith, h, up)) (parts_then e.state e.mirrors.upto e.parts)) refl
          (record { asks = λ y h. h; gives = λ y h. h; activates = λ y h. h }) (λ n. record { started = refl; ends = refl; granted = refl })
          (record { held = held_now; untils = here.untils ∙ sym l.untils })
          (λ j d. record { held = by_put (λ (h : ℕ). h ≡ e.state.held j) m s.manager.held.epoch e.state.held j (λ q. absurd (d q)) (λ o. refl); untils = refl })
          (λ j. by_put (λ (h : ℕ). h ≤ length then_world.views) m s.manager.held.epoch e.state.held j (λ q. within) (λ o. upto_then j))
          (all_plain after s.letters l.letters)
        where
          after : State
          after = next (setting_of then_world e.founders) e.state (Learn m s.manager.held.epoch)

          held_now : put m s.manager.held.epoch e.state.held m ≡ s.manager.held.epoch
          held_now = by_put (λ (h : ℕ). h ≡ s.manager.held.epoch) m s.manager.held.epoch e.state.held m (λ q. refl) (λ d. absurd (d refl))

          within : s.manager.held.epoch ≤ length then_world.views
          within = (epoch_within then_world.views s.manager.held.epoch s.manager.held (then_council.held m (managing s.manager) (set_same w.managers m (managing s.manager) (managing g) at))).1

      pub learned_earned : IsLearned g s → IsEarned then_world
      learned_earned l = ⊎_elim
          (λ (same : s.manager.held ≡ g.held). made_earned e.state (parts_then e.state e.mirrors.upto e.parts) refl
          (record { asks = λ y h. h; gives = λ y h. h; activates = λ y h. h }) (λ n. record { started = refl; ends = refl; granted = refl })
          (record { held = here.held ∙ sym (ap (λ (v : View). v.epoch) same); untils = here.untils ∙ sym l.untils }) (λ j d. record { held = refl; untils = refl }) upto_then (all_plain e.state s.letters l.letters))
          (λ (up : g.held.epoch < s.manager.held.epoch). later_earned l up) l.held

  the_view : view_in w.views (e.state.held m) ≡ g.held
  the_view = ap (view_in w.views) here.held ∙ view_at w.views g.held.epoch g.held (council.held m (managing g) at)

  -- ---- a lease is granted
  abbrev pub grants : NodeId → ℕ → ManagerStepped
  grants n asked = sends (record g { untils = with_grant g.untils n (g.clock + wait g.lease) }) (letter_to g g.held.epoch (Body.LeaseGive (min (asked + g.lease) MAX_TIME)) (Node n) ∷ [])

  pub grant_earned : (n : NodeId) (asked : ℕ) → In e.state.asks (record { node = n; manager = m; asked = asked }) → is_member n g.held.members ≡ true → IsEarned (then_world (grants n asked))
  grant_earned n asked sent inside = made_earned (grants n asked) after
      (parts_then (grants n asked) after e.mirrors.upto (event_kept (setting_of w e.founders) (stay_out w sound council e.founders) e.state (TakeAsk ask) (is_live, sent, inside_now) e.parts)) refl
      (record { asks = λ y h. h; gives = λ y h. inr h; activates = λ y h. h }) (λ k. record { started = refl; ends = refl; granted = refl })
      (record { held = here.held; untils = untils_now })
      (λ j d. record { held = refl; untils = by_put (λ (l : List (NodeId × ℕ)). l ≡ e.state.untils j) m noted e.state.untils j (λ q. absurd (d q)) (λ o. refl) }) (upto_then (grants n asked))
      (inl (told g.id g.lease (manager_is w sound m (managing g) at).own (manager_is w sound m (managing g) at).same_lease), tt)
    where
      ask : Ask
      ask = record { node = n; manager = m; asked = asked }

      after : State
      after = next (setting_of w e.founders) e.state (TakeAsk ask)

      inside_now : member (setting_of w e.founders) (e.state.held m) n ≡ true
      inside_now = subst (λ (v : View). is_member n v.members ≡ true) (sym the_view) inside

      noted : List (NodeId × ℕ)
      noted = with_grant (e.state.untils m) n (clock e.state (Manager m) + wait w.lease)

      same_noted : (a b : List (NodeId × ℕ)) (c d k l : ℕ) → a ≡ b → c ≡ d → k ≡ l → with_grant a n (c + wait k) ≡ with_grant b n (d + wait l)
      same_noted a b c d k l p q r = rw (p, q, r) refl

      untils_now : put m noted e.state.untils m ≡ with_grant g.untils n (g.clock + wait g.lease)
      untils_now = by_put (λ (l : List (NodeId × ℕ)). l ≡ with_grant g.untils n (g.clock + wait g.lease)) m noted e.state.untils m
          (λ q. same_noted (e.state.untils m) g.untils (clock e.state (Manager m)) g.clock w.lease g.lease here.untils reads (sym (manager_is w sound m (managing g) at).same_lease)) (λ d. absurd (d refl))

      told : (k lease : ℕ) → k ≡ m → lease ≡ w.lease → ◌≡◌ {A = Give} (record { manager = k; node = n; end = min (asked + lease) MAX_TIME }) (record { manager = m; node = n; end = min (asked + w.lease) MAX_TIME })
      told k lease p q = rw (p, q) refl

  -- ---- a view is let begin
  pub activates_earned : past_answer g.untils g.held g.clock ≡ Ok tt → IsEarned (then_world (sends g (to_members g g.held.epoch (Body.Activate g.held))))
  activates_earned quiet = made_earned s after
      (parts_then s after e.mirrors.upto (event_kept (setting_of w e.founders) (stay_out w sound council e.founders) e.state (SendActivate m) (is_live, quiet_now) e.parts)) refl
      (record { asks = λ y h. h; gives = λ y h. h; activates = λ y h. inr h }) (λ k. record { started = refl; ends = refl; granted = refl })
      (record { held = here.held; untils = here.untils }) (λ j d. record { held = refl; untils = refl }) (upto_then s) (all_told g.held.members)
    where
      s : ManagerStepped
      s = sends g (to_members g g.held.epoch (Body.Activate g.held))

      after : State
      after = next (setting_of w e.founders) e.state (SendActivate m)

      same_past : (a b : List (NodeId × ℕ)) (u v : View) (c d : ℕ) → a ≡ b → u ≡ v → c ≡ d → past_answer b v d ≡ Ok tt → past_answer a u c ≡ Ok tt
      same_past a b u v c d p q r h = rw (p, q, r) h

      quiet_now : past_answer (e.state.untils m) (view_in w.views (e.state.held m)) (clock e.state (Manager m)) ≡ Ok tt
      quiet_now = same_past (e.state.untils m) g.untils (view_in w.views (e.state.held m)) g.held (clock e.state (Manager m)) g.clock here.untils the_view reads quiet

      told : (k epoch : ℕ) → k ≡ m → epoch ≡ e.state.held m → ◌≡◌ {A = Activate} (record { manager = k; epoch = epoch }) (record { manager = m; epoch = e.state.held m })
      told k epoch p q = rw (p, q) refl

      all_told : (members : List NodeId) → AllByRecursion (Stands after) (map (λ member. letter_to g g.held.epoch (Body.Activate g.held) (Node member)) members)
      all_told [] = tt
      all_told (n ∷ members) = (inl (told g.id g.held.epoch (manager_is w sound m (managing g) at).own (sym here.held)), all_told members)

  -- ---- a letter comes
  pub receipt_earned : (l : Letter) → In w.letters l → l.to ≡ Manager m → IsWorld (then_world (receives g l)) → IsCouncil (then_world (receives g l)) → IsEarned (then_world (receives g l))
  receipt_earned l sent to then_sound then_council = ⊎_elim
      (λ (k : IsLearned g (receives g l)). learned_earned (receives g l) then_sound then_council k)
      (λ (k : IsGrant g l.from l.body (receives g l)). subst (λ (s : ManagerStepped). IsEarned (then_world s)) (sym k.is)
      (grant_earned k.node k.asked (stands_ask e.state l k.node m k.asked k.asks to k.said (e.mirrors.letters l sent)) k.member)) (received g l)
