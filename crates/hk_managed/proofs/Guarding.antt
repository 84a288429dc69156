-- A world that is kept is guarded.
use Rattle.std.proofs.Common.{◌≡◌, ◌⊎◌, ◌+◌, ◌<◌, ◌≤◌, ◌==◌, ◌&&◌, ℕ, List, [], ◌∷◌, length, Bool, true, false, cond, nat_lt, max, Option, Some, None, sym, subst, inl, inr, ⊎_elim, arith, ap, ◌∙◌, le_refl, le_trans}
use Rattle.hk_base.specs.declared.stamp.NodeId.{NodeId}
use Rattle.hk_base.specs.declared.view.View.{View}
use Rattle.hk_base.specs.declared.letter.Actor.TheVariants.{Node, Manager}
use Rattle.hk_base.specs.declared.letter.Body.TheVariants as Body
use Rattle.hk_node.specs.Node.{NodeState, epoch_of}
use Rattle.hk_base.specs.View.{is_member}
use Rattle.hk_earned.specs.Machine.{Give, In, granted_by, clock}
use Rattle.hk_earned.specs.Earned.{IsLeftOut, HasEnded}
use Rattle.hk_earned.proofs.Majorities.{Most, meet}
use Rattle.hk_earned.proofs.Parts.{by_letters}
use Rattle.hk_world.specs.declared.process.Process.{Process}
use Rattle.hk_world.specs.World.{WorldState, process_at, node_of, numbered}
use Rattle.hk_world.specs.Sound.{IsWorld}
use Rattle.hk_managed.specs.Begun.{HasSent, IsActivated, MayHaveBegun}
use Rattle.hk_managed.specs.Guarded.{Ended, HasGiven, HasFirstLease, IsGranted, Expired, IsGuarded}
use Rattle.hk_managed.proofs.Places.{view_at, epoch_within}
use Rattle.hk_managed.proofs.Mirror.{NodeStands, NodeIn, setting_of, IsEarned}
use Rattle.hk_managed.proofs.Facts.{alive, process_is, node_reads, is_live_in, reads_in}
use Rattle.hk_managed.proofs.Kept.{HeardIn, IsKept}
use Rattle.hk_managed.proofs.Viewing.{ViewIn, AllViews}

first_granted : (lease founders : ℕ) (gives : List Give) (m : ℕ) (n : NodeId) → nat_lt n.0 founders ≡ true → lease ≤ granted_by lease founders gives m n
first_granted lease founders [] m n founder = rw founder (le_refl lease)
first_granted lease founders (give ∷ gives) m n founder = at ((give.manager == m) && (give.node.0 == n.0)) (first_granted lease founders gives m n founder)
  where
    at : (b : Bool) → lease ≤ granted_by lease founders gives m n → lease ≤ cond b (max (granted_by lease founders gives m n) give.end) (granted_by lease founders gives m n)
    at true h = omega (arith, h)
    at false h = h

module _ (w : WorldState) (sound : IsWorld w) where
  -- an ACTIVATE of the world is one of the state
  activate_stands : (e : IsEarned w) (m epoch : ℕ) → HasSent w.letters m epoch → In e.state.activates (record { manager = m; epoch = epoch })
  activate_stands e m epoch h = subst (λ (k : ℕ). In e.state.activates (record { manager = m; epoch = k })) h.of (e.mirrors.letters (record { epoch = h.under; from = Manager m; to = h.to; body = Body.Activate h.view }) h.sent)

  -- what a manager granted by a letter, or at the start, is no later than the greatest that it granted
  granted_upto : (e : IsEarned w) (m : ℕ) (n : NodeId) (end : ℕ) → HasGiven w.letters m n end ⊎ HasFirstLease w n end → end ≤ granted_by w.lease e.founders e.state.gives m n
  granted_upto e m n end (inl g) =
      let stands = e.mirrors.letters (record { epoch = g.under; from = Manager m; to = Node n; body = Body.LeaseGive g.given }) g.sent in
      le_trans g.upto (e.parts.gives (record { manager = m; node = n; end = g.given }) stands)
  granted_upto e m n end (inr f) =
      let founder = e.first n (subst (λ (v : View). is_member n v.members ≡ true) (sym (view_at w.views 1 f.view f.first)) f.member) in
      le_trans f.upto (first_granted w.lease e.founders e.state.gives m n founder)

  -- a live node that a view leaves out, in the words of the machine
  module _ (e : IsEarned w) (epoch : ℕ) (a : IsActivated (length w.managers) w.letters epoch) (n : NodeId) (x : NodeState) (at : process_at n w.processes ≡ Some (alive x))
      (lower : ℕ) (before view : View) (low : lower < epoch) (is_before : numbered lower w.views ≡ Some before) (is_view : numbered epoch w.views ≡ Some view)
      (was : is_member n before.members ≡ true) (out : is_member n view.members ≡ false) where
    most : Most (length w.managers) (λ m. In e.state.activates (record { manager = m; epoch = epoch }))
    most = record { test = a.test; many = a.many; each = λ m t. activate_stands e m epoch (a.each m t) }

    left : IsLeftOut (setting_of w e.founders) e.state.clocks epoch n
    left = record {
      before = lower;
      first = (epoch_within w.views lower before is_before).0;
      lower = low;
      was = subst (λ (v : View). is_member n v.members ≡ true) (sym (view_at w.views lower before is_before)) was;
      out = subst (λ (v : View). is_member n v.members ≡ false) (sym (view_at w.views epoch view is_view)) out;
      live = is_live_in w e.state e.mirrors.clocks (Node n) x.clock (node_reads w sound n x at);
    }

    ended : HasEnded (setting_of w e.founders) e.state n
    ended = by_letters (setting_of w e.founders) e.state e.parts epoch n most left

    now : clock e.state (Node n) ≡ x.clock
    now = reads_in w e.state e.mirrors.clocks (Node n) x.clock (node_reads w sound n x at)

    skew : x.skew ≡ w.skew
    skew = (process_is w sound n (alive x) at).same_skew

    pub received : x.granted < x.clock + x.skew
    received =
        let here : NodeStands e.state n x = subst (NodeIn (length w.managers) e.state n) at (e.mirrors.nodes n) in
        let granted = here.granted in
        let late = ended.received in
        let reads = now in
        let same = skew in
        omega (arith, late, granted, reads, same)

    pub granted : (end : ℕ) → IsGranted w n end → end < x.clock + x.skew
    granted end g =
        let m = meet (length w.managers) a.test g.test a.many g.many in
        let upto = granted_upto e m.0 n end (g.each m.0 m.2) in
        let past = (e.parts.activates (record { manager = m.0; epoch = epoch }) (activate_stands e m.0 epoch (a.each m.0 m.1))).past n left in
        let reads = now in
        let same = skew in
        omega (arith, upto, past, reads, same)

  pub activated_ended : IsEarned w → (epoch : ℕ) → IsActivated (length w.managers) w.letters epoch → Ended w epoch
  activated_ended e epoch a n x at lower before view low is_before is_view was out = received e epoch a n x at lower before view low is_before is_view was out

  pub activated_expired : IsEarned w → (epoch : ℕ) → IsActivated (length w.managers) w.letters epoch → Expired w epoch
  activated_expired e epoch a n x at lower before view low is_before is_view was out end g = granted e epoch a n x at lower before view low is_before is_view was out end g

  -- before the first epoch there is no view
  first_ended : (epoch : ℕ) → epoch ≤ 1 → Ended w epoch
  first_ended epoch first n x at lower before view low is_before is_view was out = let h = (epoch_within w.views lower before is_before).0 in absurd (omega (arith, h, low, first))

  first_expired : (epoch : ℕ) → epoch ≤ 1 → Expired w epoch
  first_expired epoch first n x at lower before view low is_before is_view was out end g = let h = (epoch_within w.views lower before is_before).0 in absurd (omega (arith, h, low, first))

  pub kept_guarded : IsKept w → AllViews w.views w.processes → IsGuarded w
  kept_guarded kept views = record {
    ended = λ epoch begun. ⊎_elim (λ (first : epoch ≤ 1). first_ended epoch first) (λ (a : IsActivated (length w.managers) w.letters epoch). activated_ended kept.earned epoch a) begun;
    expired = λ epoch begun. ⊎_elim (λ (first : epoch ≤ 1). first_expired epoch first) (λ (a : IsActivated (length w.managers) w.letters epoch). activated_expired kept.earned epoch a) begun;
    learned = λ n x view at is. has_view n x view (process_at n w.processes) at is (views n);
    begun = λ n x at. has_begun n x (process_at n w.processes) at (kept.heard n);
  }
    where
      has_begun : (n : NodeId) (x : NodeState) (o : Option Process) → node_of o ≡ Some x → HeardIn (length w.managers) w.letters o → MayHaveBegun w (epoch_of x)
      has_begun n x None at h = absurd cc
      has_begun n x (Some p) at h = let same : p.node ≡ x = cc in subst (λ (y : NodeState). MayHaveBegun w (epoch_of y)) same h.begun

      has_view : (n : NodeId) (x : NodeState) (view : View) (o : Option Process) → node_of o ≡ Some x → x.view ≡ Some view → ViewIn w.views o → numbered view.epoch w.views ≡ Some view
      has_view n x view None at is h = absurd cc
      has_view n x view (Some p) at is h = let same : p.node ≡ x = cc in h view (ap (λ (y : NodeState). y.view) same ∙ is)
