-- What holds at every moment of a council's run, and how it outlasts a step of which this much is known.
use Rattle.std.proofs.Common.{◌≡◌, ◌≢◌, ◌⊎◌, ℕ, ◌+◌, ◌<◌, ◌≤◌, List, [], ◌∷◌, ◌++◌, refl, sym, ap, subst, ◌∙◌, inl, inr, ⊎_elim, arith, le_trans, le_refl}
use Rattle.std.proofs.lemmas.Bool.{cases_lt}
use Rattle.hk_base.specs.declared.view.View.{View}
use Rattle.hk_base.specs.declared.letter.Actor.TheVariants.{Manager}
use Rattle.hk_base.specs.declared.letter.Body.{Body}
use Rattle.hk_base.specs.declared.letter.Body.TheVariants.{Chosen, Activate}
use Rattle.hk_base.specs.declared.letter.Letter.{Letter}
use Rattle.hk_paxos.specs.Run.{In, put, IsChosen}
use Rattle.hk_paxos.specs.Run.PaxosLetter.{ChosenLetter}
use Rattle.hk_paxos.proofs.Quorums.{in_either, in_right}
use Rattle.hk_manager.specs.Manager.{ManagerState}
use Rattle.hk_manager.specs.Steps.{ManagerStepped}
use Rattle.hk_council.specs.Chain.{IsChain, Follows}
use Rattle.hk_council.specs.Council.{Council, last_epoch, learned_with}
use Rattle.hk_council.specs.Agreed.{IsOneOf}
use Rattle.hk_council.proofs.Chains.{in_left, in_end, change_epoch, epoch_within, view_at, chain_with, learned_stays, learned_grows, learned_keeps}
use Rattle.hk_paxos.proofs.Values.{put_cases}
use Rattle.hk_council.proofs.Instances.{InstanceRun, agrees, learning}

module _ (managers : ℕ) where
  pub record Sound (c : Council) : Type 0 where
    pub ids : (n : ℕ) → (c.manager n).id ≡ n
    pub counts : (n : ℕ) → (c.manager n).managers ≡ managers
    pub chain : IsChain c.learned
    pub held : (n : ℕ) → In c.learned (c.manager n).held
    pub runs : (f : ℕ) → InstanceRun managers c.manager c.sent c.learned f
    pub chosen : (l : Letter) (n : ℕ) (v : View) → In c.sent l → l.from ≡ Manager n → l.body ≡ Chosen v → In c.learned v
    pub begun : (l : Letter) (n : ℕ) (v : View) → In c.sent l → l.from ≡ Manager n → l.body ≡ Activate v → In c.learned v × (v.epoch ≡ l.epoch) × (v.epoch ≤ (c.manager n).held.epoch)

  module _ (manager : ℕ → ManagerState) (sent : List Letter) (learned : List View) (chain : IsChain learned) (runs : (f : ℕ) → InstanceRun managers manager sent learned f) where
    -- a view that is reported in an instance
    abbrev pub Reported : ℕ → View → Type 0
    Reported e v = In (runs e).state.sent (ChosenLetter v)

    pub follows : (e : ℕ) (v : View) → Reported e v → Follows learned e v
    follows e v h = (runs e).views.letters (ChosenLetter v) h

    pub its_epoch : (e : ℕ) (v : View) → Reported e v → v.epoch ≡ e
    its_epoch e v h = let f = follows e v h in change_epoch f.before v f.change ∙ f.earlier

    pub is_chosen : (e : ℕ) (v : View) → Reported e v → IsChosen managers (runs e).state v
    is_chosen e v h = (agrees managers manager sent learned e (runs e)).reported v h

    -- no instance is of epoch 1
    not_first : (e : ℕ) (v : View) → Reported e v → e ≢ 1
    not_first e v h is = let f = follows e v h in let w = epoch_within learned f.before chain f.among in absurd (omega (arith, w.0, f.earlier, is))

    -- the view before is at most the last
    next_at_most : (e : ℕ) (v : View) → Reported e v → v.epoch ≤ last_epoch learned + 1
    next_at_most e v h = let f = follows e v h in let w = epoch_within learned f.before chain f.among in let own = its_epoch e v h in omega (arith, w.1, f.earlier, own)

    -- one view an epoch
    pub is_known : (e : ℕ) (v : View) → Reported e v → v.epoch ≤ last_epoch learned → In learned v
    is_known e v h upto =
        let own = its_epoch e v h in
        let f = follows e v h in
        let before = epoch_within learned f.before chain f.among in
        let w = view_at learned e chain (omega (arith, f.earlier, before.0)) (omega (arith, own, upto)) in
        let same : v ≡ w.0 = (agrees managers manager sent learned e (runs e)).one v w.0 (is_chosen e v h) ((runs e).chosen w.0 w.1 w.2 (not_first e v h)) in
        subst (λ (x : View). In learned x) (sym same) w.1

    -- what is held then was learned, or is reported and new
    abbrev pub IsNew : View → Type 0
    IsNew v = (last_epoch learned < v.epoch) × (e : ℕ) × Reported e v

    pub known_or_new : (e : ℕ) (v : View) → Reported e v → In learned v ⊎ IsNew v
    known_or_new e v h = ⊎_elim (λ (l : last_epoch learned < v.epoch). inr (l, e, h)) (λ (u : v.epoch ≤ last_epoch learned). inl (is_known e v h u)) (cases_lt (last_epoch learned) v.epoch)

    -- so the views that were learned go on as a chain
    pub record Learned (v : View) (more : List View) : Type 0 where
      pub chain_more : IsChain more
      pub there : In more v
      pub keeps : (w : View) → In learned w → In more w
      pub runs_more : (f : ℕ) → InstanceRun managers manager sent more f

    known_learned : (v : View) → In learned v → Learned v learned
    known_learned v h = record { chain_more = chain; there = h; keeps = λ w k. k; runs_more = runs }

    new_learned : (e : ℕ) (v : View) → last_epoch learned < v.epoch → Reported e v → Learned v (learned ++ v ∷ [])
    new_learned e v above h =
        let f = follows e v h in
        let own = its_epoch e v h in
        let before = epoch_within learned f.before chain f.among in
        record {
          chain_more = chain_with learned f.before v chain f.among (omega (arith, above, f.earlier, own, before.1)) f.change;
          there = in_end learned v;
          keeps = in_left learned (v ∷ []);
          runs_more = λ g. learning managers manager sent learned (learned ++ v ∷ []) g (runs g) (in_left learned (v ∷ [])) (λ w k of other. ⊎_elim
              (λ (was : In learned w). (runs g).chosen w was of other)
              (λ (new : In (v ∷ []) w). ⊎_elim
              (λ (is : w ≡ v). let at : e ≡ g = sym own ∙ ap (λ (x : View). x.epoch) (sym is) ∙ of in
              subst (λ (x : View). IsChosen managers (runs g).state x) (sym is) (subst (λ (k : ℕ). IsChosen managers (runs k).state v) at (is_chosen e v h)))
              (λ (none : ⊥). absurd none) new) (in_either learned (v ∷ []) w k));
        }

    pub learned_sound : (v : View) → In learned v ⊎ IsNew v → Learned v (learned_with learned v)
    learned_sound v (inl h) = subst (Learned v) (sym (learned_stays learned v (epoch_within learned v chain h).1)) (known_learned v h)
    learned_sound v (inr new) = subst (Learned v) (sym (learned_grows learned v new.0)) (new_learned new.1 v new.0 new.2)

    -- a view that is reported, and is not above what is held then, is learned then
    pub reported_learned : (held : View) → In learned held ⊎ IsNew held → (e : ℕ) (v : View) → Reported e v → v.epoch ≤ held.epoch → In (learned_with learned held) v
    reported_learned held (inl h) e v r upto = learned_keeps learned held v (is_known e v r (le_trans upto (epoch_within learned held chain h).1))
    reported_learned held (inr new) e v r upto = ⊎_elim
        (λ (above : last_epoch learned < v.epoch).
        let most = next_at_most new.1 held new.2 in
        let own = its_epoch e v r in
        let theirs = its_epoch new.1 held new.2 in
        let at : new.1 ≡ e = omega (arith, most, own, theirs, above, upto) in
        let same : v ≡ held = (agrees managers manager sent learned e (runs e)).one v held (is_chosen e v r) (subst (λ (k : ℕ). IsChosen managers (runs k).state held) at (is_chosen new.1 held new.2)) in
        subst (λ (x : View). In (learned_with learned held) x) (sym same) (learned_sound held (inr new)).there)
        (λ (low : v.epoch ≤ last_epoch learned). learned_keeps learned held v (is_known e v r low)) (cases_lt (last_epoch learned) v.epoch)

  -- what is known of a step of manager m
  pub record Outcome (c : Council) (m : ℕ) (stepped : ManagerStepped) : Type 0 where
    pub id : stepped.manager.id ≡ (c.manager m).id
    pub count : stepped.manager.managers ≡ (c.manager m).managers
    pub runs : (f : ℕ) → InstanceRun managers (put m stepped.manager c.manager) (c.sent ++ stepped.letters) c.learned f
    -- it holds what it held, or a view that is reported in an instance
    pub holds : (stepped.manager.held ≡ (c.manager m).held) ⊎ ((e : ℕ) × In (runs e).state.sent (ChosenLetter stepped.manager.held))
    pub rises : (c.manager m).held.epoch ≤ stepped.manager.held.epoch
    pub sender : (l : Letter) → In stepped.letters l → l.from ≡ Manager m
    pub reports : (l : Letter) (v : View) → In stepped.letters l → l.body ≡ Chosen v → v.epoch ≤ stepped.manager.held.epoch
    pub begins : (l : Letter) (v : View) → In stepped.letters l → l.body ≡ Activate v → (v ≡ (c.manager m).held) × (v.epoch ≡ l.epoch)

  abbrev pub after : Council → ℕ → ManagerStepped → Council
  after c m stepped = record c { manager = put m stepped.manager c.manager; sent = c.sent ++ stepped.letters; learned = learned_with c.learned stepped.manager.held }

  same_manager : (m n : ℕ) → Manager m ≡ Manager n → n ≡ m
  same_manager m n e = cc

  module _ (c : Council) (sound : Sound c) (m : ℕ) (stepped : ManagerStepped) (o : Outcome c m stepped) where
    found : In c.learned stepped.manager.held ⊎ IsNew (put m stepped.manager c.manager) (c.sent ++ stepped.letters) c.learned sound.chain o.runs stepped.manager.held
    found = ⊎_elim
        (λ (e : stepped.manager.held ≡ (c.manager m).held). inl (subst (λ (v : View). In c.learned v) (sym e) (sound.held m)))
        (λ (r : (e : ℕ) × In (o.runs e).state.sent (ChosenLetter stepped.manager.held)).
        known_or_new (put m stepped.manager c.manager) (c.sent ++ stepped.letters) c.learned sound.chain o.runs r.0 stepped.manager.held r.1) o.holds

    made : Learned (put m stepped.manager c.manager) (c.sent ++ stepped.letters) c.learned sound.chain o.runs stepped.manager.held (learned_with c.learned stepped.manager.held)
    made = learned_sound (put m stepped.manager c.manager) (c.sent ++ stepped.letters) c.learned sound.chain o.runs stepped.manager.held found

    risen : (n : ℕ) → (c.manager n).held.epoch ≤ (put m stepped.manager c.manager n).held.epoch
    risen n = ⊎_elim
        (λ (e : (n ≡ m) × (put m stepped.manager c.manager n ≡ stepped.manager)). rw (e.1, e.0) o.rises)
        (λ (d : (n ≢ m) × (put m stepped.manager c.manager n ≡ c.manager n)). rw d.1 (le_refl (c.manager n).held.epoch)) (put_cases m stepped.manager c.manager n)

    its_report : (l : Letter) (n : ℕ) (v : View) → In stepped.letters l → l.from ≡ Manager n → l.body ≡ Chosen v → In (o.runs l.epoch).state.sent (ChosenLetter v)
    its_report l n v new by says = subst (λ (body : Body). IsOneOf (o.runs l.epoch).state.sent n body) says ((o.runs l.epoch).letters l n (in_right c.sent stepped.letters l new) refl by)

    its_view : (l : Letter) (n : ℕ) (v : View) → In stepped.letters l → l.from ≡ Manager n → l.body ≡ Activate v →
        In (learned_with c.learned stepped.manager.held) v × (v.epoch ≡ l.epoch) × (v.epoch ≤ (put m stepped.manager c.manager n).held.epoch)
    its_view l n v new by says =
        let b = o.begins l v new says in
        let its : n ≡ m = same_manager m n (sym (o.sender l new) ∙ by) in (
          subst (λ (x : View). In (learned_with c.learned stepped.manager.held) x) (sym b.0) (made.keeps (c.manager m).held (sound.held m)),
          b.1,
          rw (its, b.0) (risen m),
        )

    pub outcome_sound : Sound (after c m stepped)
    outcome_sound = record {
      ids = λ n. ⊎_elim
          (λ (e : (n ≡ m) × (put m stepped.manager c.manager n ≡ stepped.manager)). ap (λ (x : ManagerState). x.id) e.1 ∙ o.id ∙ sound.ids m ∙ sym e.0)
          (λ (d : (n ≢ m) × (put m stepped.manager c.manager n ≡ c.manager n)). ap (λ (x : ManagerState). x.id) d.1 ∙ sound.ids n) (put_cases m stepped.manager c.manager n);
      counts = λ n. ⊎_elim
          (λ (e : (n ≡ m) × (put m stepped.manager c.manager n ≡ stepped.manager)). ap (λ (x : ManagerState). x.managers) e.1 ∙ o.count ∙ sound.counts m)
          (λ (d : (n ≢ m) × (put m stepped.manager c.manager n ≡ c.manager n)). ap (λ (x : ManagerState). x.managers) d.1 ∙ sound.counts n) (put_cases m stepped.manager c.manager n);
      chain = made.chain_more;
      held = λ n. ⊎_elim
          (λ (e : (n ≡ m) × (put m stepped.manager c.manager n ≡ stepped.manager)). rw e.1 made.there)
          (λ (d : (n ≢ m) × (put m stepped.manager c.manager n ≡ c.manager n)). rw d.1 (made.keeps (c.manager n).held (sound.held n))) (put_cases m stepped.manager c.manager n);
      runs = made.runs_more;
      chosen = λ l n v h by says. ⊎_elim
          (λ (was : In c.sent l). made.keeps v (sound.chosen l n v was by says))
          (λ (new : In stepped.letters l). reported_learned (put m stepped.manager c.manager) (c.sent ++ stepped.letters) c.learned sound.chain o.runs stepped.manager.held found l.epoch v
          (its_report l n v new by says) (o.reports l v new says)) (in_either c.sent stepped.letters l h);
      begun = λ l n v h by says. ⊎_elim
          (λ (was : In c.sent l). let b = sound.begun l n v was by says in (made.keeps v b.0, b.1, le_trans b.2 (risen n)))
          (λ (new : In stepped.letters l). its_view l n v new by says)
          (in_either c.sent stepped.letters l h);
    }
