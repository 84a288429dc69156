-- What holds with one family of views holds with another that is the same up to each view that a manager holds.
use Rattle.std.proofs.Common.{◌≡◌, ℕ, ◌≤◌, true, false, subst, inl, inr, ⊎_elim, arith}
use Rattle.hk_base.specs.declared.stamp.NodeId.{NodeId}
use Rattle.hk_base.specs.declared.view.View.{View}
use Rattle.hk_base.specs.View.{is_member}
use Rattle.hk_clocks.specs.Clocks.{ClockState}
use Rattle.hk_earned.specs.Machine.{Setting, State, granted_by, member}
use Rattle.hk_earned.proofs.Majorities.{Most}
use Rattle.hk_earned.proofs.Parts.{Past, Parts}

-- the setting with other views
abbrev pub with_views : Setting → (ℕ → View) → Setting
with_views s views = record { views = views; managers = s.managers; lease = s.lease; skew = s.skew; founders = s.founders }

module _ (s : Setting) (views : ℕ → View) where
  past_with : (c : ClockState) (held : ℕ) (granted : NodeId → ℕ) (epoch : ℕ) → ((e : ℕ) → e ≤ held → views e ≡ s.views e) → Past s c held granted epoch → Past (with_views s views) c held granted epoch
  past_with c held granted epoch same p = record {
    upto = p.upto;
    past = λ n l.
        let up = p.upto in
        let low = l.lower in
        let was : member s l.before n ≡ true = subst (λ (v : View). is_member n v.members ≡ true) (same l.before (omega (arith, up, low))) l.was in
        let out : member s epoch n ≡ false = subst (λ (v : View). is_member n v.members ≡ false) (same epoch up) l.out in
        p.past n (record { before = l.before; first = l.first; lower = l.lower; was = was; out = out; live = l.live });
  }

  pub parts_with : (st : State) → ((m e : ℕ) → e ≤ st.held m → views e ≡ s.views e) → Parts s st → Parts (with_views s views) st
  parts_with st same p = record {
    sound = p.sound;
    skew = p.skew;
    ones = p.ones;
    managers = p.managers;
    asks = p.asks;
    known = p.known;
    rates = p.rates;
    gives = p.gives;
    ends = p.ends;
    reached = p.reached;
    activates = λ sent i. kept sent.manager sent.epoch (p.activates sent i);
    heard = λ n m h. kept m (st.heard_epoch n) (p.heard n m h);
    installed = λ epoch i. ⊎_elim (λ (l : epoch ≤ 1). inl l)
        (λ (m : Most s.managers (λ m. Past s st.clocks (st.held m) (granted_by s.lease s.founders st.gives m) epoch)). inr (record { test = m.test; many = m.many; each = λ j h. kept j epoch (m.each j h) })) (p.installed epoch i);
  }
    where
      kept : (m epoch : ℕ) → Past s st.clocks (st.held m) (granted_by s.lease s.founders st.gives m) epoch → Past (with_views s views) st.clocks (st.held m) (granted_by s.lease s.founders st.gives m) epoch
      kept m epoch p = past_with st.clocks (st.held m) (granted_by s.lease s.founders st.gives m) epoch (same m) p
