-- What is known of each step of a manager.
use Rattle.std.proofs.Common.{◌≡◌, ◌≢◌, ◌⊎◌, ℕ, zero, suc, ◌<◌, ◌≤◌, ◌==◌, not, List, [], ◌∷◌, ◌++◌, map, Option, None, Some, max, refl, sym, ap, subst, ◌∙◌, inl, inr, ⊎_elim, arith, le_refl}
use Rattle.std.specs.Option.{option_map, option_to_list}
use Rattle.std.specs.List.{range_with_len, filter}
use Rattle.std.proofs.lemmas.Bool.{eq-eqb}
use Rattle.hk_base.specs.declared.stamp.NodeId.{NodeId}
use Rattle.hk_base.specs.declared.view.Ballot.{Ballot}
use Rattle.hk_base.specs.declared.view.View.{View}
use Rattle.hk_base.specs.declared.letter.Actor.{Actor}
use Rattle.hk_base.specs.declared.letter.Actor.TheVariants.{Node, Manager}
use Rattle.hk_base.specs.declared.letter.Body.{Body}
use Rattle.hk_base.specs.declared.letter.Letter.{Letter}
use Rattle.hk_paxos.specs.declared.acceptor.Acceptor.{Acceptor}
use Rattle.hk_paxos.specs.declared.proposer.Proposer.{Proposer}
use Rattle.hk_paxos.specs.Paxos.{Step}
use Rattle.hk_paxos.specs.Run.{PaxosLetter, PaxosState, In, put, delivered, with_acceptor}
use Rattle.hk_paxos.specs.Run.PaxosLetter.{PrepareLetter, ChosenLetter}
use Rattle.hk_paxos.specs.Run.PaxosEvent.{Deliver}
use Rattle.hk_paxos.proofs.Quorums.{in_either, in_right}
use Rattle.hk_manager.specs.declared.instance.Instance.{Instance}
use Rattle.hk_manager.specs.Manager.{ManagerState, instance_at, with_instance}
use Rattle.hk_manager.specs.Sends.{letter_to, to_all, to_others, to_members, told_all}
use Rattle.hk_manager.specs.Steps.{sends}
use Rattle.hk_council.specs.Chain.{Follows}
use Rattle.hk_council.specs.Council.{Council}
use Rattle.hk_council.specs.Agreed.{IsOneOf}
use Rattle.hk_paxos.proofs.Values.{put_cases, AllViews, event_keeps}
use Rattle.hk_council.proofs.Instances.{IsSaid, IsBacked, ballot_of, instance_same, instance_other, Moves, kept, moved}
use Rattle.hk_council.proofs.Learning.{Sound, Outcome}

pub put_here : {X : Type 0} (m : ℕ) (x : X) (f : ℕ → X) → put m x f m ≡ x
put_here m x f = rw (eq-eqb m m refl) refl

pub put_there : {X : Type 0} (m : ℕ) (x : X) (f : ℕ → X) (n : ℕ) → n ≢ m → put m x f n ≡ f n
put_there m x f n d = ⊎_elim (λ (e : (n ≡ m) × (put m x f n ≡ x)). absurd (d e.0)) (λ (k : (n ≢ m) × (put m x f n ≡ f n)). k.1) (put_cases m x f n)

-- ---- letters that all say the same
in_map : {A B : Type 0} (f : A → B) (xs : List A) (y : B) → In (map f xs) y → (x : A) × (y ≡ f x)
in_map f [] y h = absurd h
in_map f (x ∷ xs) y (inl e) = (x, e)
in_map f (x ∷ xs) y (inr h) = in_map f xs y h

-- the letter says this to somebody
abbrev pub Says : ManagerState → ℕ → Body → Letter → Type 0
Says s epoch body l = (to : Actor) × (l ≡ letter_to s epoch body to)

pub all_say : (s : ManagerState) (epoch : ℕ) (body : Body) (l : Letter) → In (to_all s epoch body) l → Says s epoch body l
all_say s epoch body l h = let x = in_map (λ (to : ℕ). letter_to s epoch body (Manager to)) (range_with_len 0 s.managers) l h in (Manager x.0, x.1)

pub others_say : (s : ManagerState) (epoch : ℕ) (body : Body) (l : Letter) → In (to_others s epoch body) l → Says s epoch body l
others_say s epoch body l h = let x = in_map (λ (to : ℕ). letter_to s epoch body (Manager to)) (filter (λ to. not (to == s.id)) (range_with_len 0 s.managers)) l h in (Manager x.0, x.1)

pub members_say : (s : ManagerState) (epoch : ℕ) (body : Body) (l : Letter) → In (to_members s epoch body) l → Says s epoch body l
members_say s epoch body l h = let x = in_map (λ (member : NodeId). letter_to s epoch body (Node member)) s.held.members l h in (Node x.0, x.1)

-- what is said to all is said to somebody, since there is a manager
pub all_hear : (s : ManagerState) (e m : ℕ) (body : Body) → s.id ≡ m → 1 ≤ s.managers → IsSaid (to_all s e body) e m body
all_hear s e m body id some = at s.managers some
  where
    first : Letter
    first = letter_to s e body (Manager 0)

    at : (k : ℕ) → 1 ≤ k → IsSaid (map (λ (to : ℕ). letter_to s e body (Manager to)) (range_with_len 0 k)) e m body
    at zero none = absurd (omega (arith, none))
    at (suc k) one = record { letter = first; ever = inl refl; of_epoch = refl; sender = ap Manager id; says = refl }

-- so a letter of Paxos that is sent is backed, where it is told to all
pub told_backs : {Answer : Type 0} (s : ManagerState) (e m : ℕ) (answer : Option Answer) (body : Answer → Body) (letter : Answer → PaxosLetter) → s.id ≡ m → 1 ≤ s.managers →
    ((a : Answer) (sent : List Letter) → IsSaid sent e m (body a) → IsBacked sent e (letter a)) →
    (p : PaxosLetter) → In (option_to_list (option_map letter answer)) p → IsBacked (told_all s e (option_map body answer)) e p
told_backs s e m None body letter id some one p h = absurd h
told_backs s e m (Some a) body letter id some one p (inl is) = subst (λ (q : PaxosLetter). IsBacked (to_all s e (body a)) e q) (sym is) (one a (to_all s e (body a)) (all_hear s e m (body a) id some))
told_backs s e m (Some a) body letter id some one p (inr h) = absurd h

-- what is known of a letter that a step sends in the instance of an epoch
pub record Spoken (e m : ℕ) (sent : List PaxosLetter) (l : Letter) : Type 0 where
  pub of_epoch : l.epoch ≡ e
  pub sender : l.from ≡ Manager m
  pub one : IsOneOf sent m l.body
  pub starts_none : (v : View) → l.body ≡ Body.Activate v → ⊥

pub spoken_at : (s : ManagerState) (e m : ℕ) (sent : List PaxosLetter) (body : Body) (l : Letter) → s.id ≡ m → Says s e body l → IsOneOf sent m body → ((v : View) → body ≡ Body.Activate v → ⊥) → Spoken e m sent l
spoken_at s e m sent body l id says one none = rw says.1 (record { of_epoch = refl; sender = ap Manager id; one = one; starts_none = none })

pub one_of : (e m n : ℕ) (sent : List PaxosLetter) (l : Letter) → Spoken e m sent l → l.from ≡ Manager n → (l.epoch ≡ e) × IsOneOf sent n l.body
one_of e m n sent l s by = (s.of_epoch, subst (λ (k : ℕ). IsOneOf sent k l.body) (same m n (sym s.sender ∙ by)) s.one)
  where
    same : (m n : ℕ) → Manager m ≡ Manager n → m ≡ n
    same m n e = cc

-- an answer that is told to all
pub told : {Answer : Type 0} (s : ManagerState) (e m : ℕ) (answer : Option Answer) (body : Answer → Body) (letter : Answer → PaxosLetter) (rest : List PaxosLetter) → s.id ≡ m →
    ((a : Answer) (sent : List PaxosLetter) → In sent (letter a) → IsOneOf sent m (body a)) → ((a : Answer) (v : View) → body a ≡ Body.Activate v → ⊥) →
    (l : Letter) → In (told_all s e (option_map body answer)) l → Spoken e m (option_to_list (option_map letter answer) ++ rest) l
told s e m None body letter rest id one none l h = absurd h
told s e m (Some a) body letter rest id one none l h = spoken_at s e m (letter a ∷ rest) (body a) l id (all_say s e (body a) l h) (one a (letter a ∷ rest) (inl refl)) (none a)

pub some_managers : (managers : ℕ) (c : Council) → Sound managers c → (m : ℕ) → m < managers → 1 ≤ (c.manager m).managers
some_managers managers c sound m known = let all = sound.counts m in omega (arith, all, known)

module _ (managers : ℕ) (c : Council) (sound : Sound managers c) (m : ℕ) (known : m < managers) where
  abbrev pub M : ManagerState
  M = c.manager m

  -- ---- nothing of Paxos happens
  abbrev pub IsQuiet : Body → Type 0
  IsQuiet body = (sent : List PaxosLetter) (n : ℕ) → IsOneOf sent n body

  pub quiet : (now : ManagerState) (letters : List Letter) (chosen : Option ℕ) → now.id ≡ M.id → now.managers ≡ M.managers → now.instances ≡ M.instances → now.proposal ≡ M.proposal →
      (now.held ≡ M.held) ⊎ ((e : ℕ) × In (sound.runs e).state.sent (ChosenLetter now.held)) → M.held.epoch ≤ now.held.epoch →
      ((l : Letter) → In letters l → (l.from ≡ Manager m) × IsQuiet l.body × ((v : View) → l.body ≡ Body.Activate v → (v ≡ M.held) × (v.epoch ≡ l.epoch))) →
      Outcome managers c m (record { manager = now; letters = letters; chosen = chosen })
  unfolding kept
  quiet now letters chosen id count instances proposal holds rises each = record {
    id = id;
    count = count;
    runs = λ f. kept managers c.manager c.sent c.learned m now letters f (sound.runs f) (ap (λ (is : List (ℕ × Instance)). instance_at f is) instances)
        (λ p is of. sym proposal ∙ is) (λ l n h of by. (each l h).1 (sound.runs f).state.sent n);
    holds = holds;
    rises = rises;
    sender = λ l h. (each l h).0;
    reports = λ l v h says. absurd (subst (λ (body : Body). IsOneOf [] m body) says ((each l h).1 [] m));
    begins = λ l v h says. (each l h).2 v says;
  }

  -- ---- an instance moves
  pub moving : (now : ManagerState) (letters : List Letter) (chosen : Option ℕ) (e : ℕ) (moves : Moves managers c.manager c.sent c.learned m now letters e (sound.runs e).state) →
      now.id ≡ M.id → now.managers ≡ M.managers → (now.held ≡ M.held) ⊎ In moves.state.sent (ChosenLetter now.held) → M.held.epoch ≤ now.held.epoch →
      ((l : Letter) (v : View) → In letters l → l.body ≡ Body.Chosen v → v.epoch ≤ now.held.epoch) → ((l : Letter) (v : View) → In letters l → l.body ≡ Body.Activate v → ⊥) →
      Outcome managers c m (record { manager = now; letters = letters; chosen = chosen })
  moving now letters chosen e moves id count holds rises reports none = record {
    id = id;
    count = count;
    runs = λ f. (moved managers c.manager c.sent c.learned m now letters e sound.runs moves f).run;
    holds = ⊎_elim (λ (same : now.held ≡ M.held). inl same)
        (λ (h : In moves.state.sent (ChosenLetter now.held)). inr (e, (moved managers c.manager c.sent c.learned m now letters e sound.runs moves e).among refl (ChosenLetter now.held) h)) holds;
    rises = rises;
    sender = moves.sender;
    reports = reports;
    begins = λ l v h says. absurd (none l v h says);
  }

  -- ---- an acceptor is delivered a letter
  module _ {Answer : Type 0} (e : ℕ) (paxos : PaxosLetter) (step : Acceptor → Step Acceptor Answer) (letter : Answer → PaxosLetter) (body : Answer → Body) (round : ℕ)
      (was_sent : In (sound.runs e).state.sent paxos) (makes : (st : PaxosState) → delivered st m paxos ≡ with_acceptor st m (step (st.acceptor m)) letter)
      (asks_none : (a : Answer) (ballot : Ballot) → letter a ≡ PrepareLetter ballot → ⊥)
      (one : (a : Answer) (sent : List PaxosLetter) → In sent (letter a) → IsOneOf sent m (body a)) (none : (a : Answer) (v : View) → body a ≡ Body.Activate v → ⊥)
      (no_report : (a : Answer) (v : View) → body a ≡ Body.Chosen v → ⊥) (backed : (a : Answer) (sent : List Letter) → IsSaid sent e m (body a) → IsBacked sent e (letter a)) where
    abbrev known_instance : Instance
    known_instance = instance_at e M.instances

    abbrev instance_now : Instance
    instance_now = record { acceptor = (step known_instance.acceptor).after; round = max known_instance.round round }

    abbrev st : PaxosState
    st = (sound.runs e).state

    abbrev sent_now : List PaxosLetter
    sent_now = option_to_list (option_map letter (step (st.acceptor m)).answer) ++ st.sent

    abbrev letters_now : List Letter
    letters_now = told_all M e (option_map body (step known_instance.acceptor).answer)

    its : st.acceptor m ≡ known_instance.acceptor
    its = (sound.runs e).acceptors m

    spoken : (l : Letter) → In letters_now l → Spoken e m sent_now l
    spoken l h = subst (λ (a : Acceptor). Spoken e m (option_to_list (option_map letter (step a).answer) ++ st.sent) l) (sym its)
        (told M e m (step known_instance.acceptor).answer body letter st.sent (sound.ids m) one none l h)

    is_backed : (q : PaxosLetter) → In (option_to_list (option_map letter (step (st.acceptor m)).answer)) q → IsBacked letters_now e q
    is_backed q h = told_backs M e m (step known_instance.acceptor).answer body letter (sound.ids m) (some_managers managers c sound m known) backed q
        (subst (λ (a : Acceptor). In (option_to_list (option_map letter (step a).answer)) q) its h)

    no_ballot : (answer : Option Answer) (ballot : Ballot) → In (option_to_list (option_map letter answer)) (PrepareLetter ballot) → ⊥
    no_ballot None ballot h = h
    no_ballot (Some a) ballot (inl is) = asks_none a ballot (sym is)
    no_ballot (Some a) ballot (inr h) = h

    reports_none : (answer : Option Answer) (l : Letter) (v : View) → In (told_all M e (option_map body answer)) l → l.body ≡ Body.Chosen v → ⊥
    reports_none None l v h says = h
    reports_none (Some a) l v h says = let s = all_say M e (body a) l h in no_report a v (ap (λ (x : Letter). x.body) (sym s.1) ∙ says)

    acceptor_moves : Moves managers c.manager c.sent c.learned m (with_instance M e instance_now) letters_now e st
    acceptor_moves = record {
      event = Deliver m paxos;
      may = (record { known = known; running = (sound.runs e).up m }, was_sent);
      proposes = tt;
      state = with_acceptor st m (step (st.acceptor m)) letter;
      made = makes st;
      stopped = λ n. refl;
      its_acceptor = put_here m (step (st.acceptor m)).after st.acceptor ∙ ap (λ (a : Acceptor). (step a).after) its ∙ ap (λ (i : Instance). i.acceptor) (sym (instance_same M.instances e instance_now));
      acceptors = λ n d. put_there m (step (st.acceptor m)).after st.acceptor n d;
      its_proposal = λ p is of. (sound.runs e).proposals m p is of;
      proposers = λ n d. refl;
      grows = λ l h. in_right _ st.sent l h;
      round = rw (instance_same M.instances e instance_now) (omega arith);
      prepares = λ n r h. ⊎_elim (λ (a : In (option_to_list (option_map letter (step (st.acceptor m)).answer)) (ballot_of r n)). absurd (no_ballot _ _ a)) (λ (s : In st.sent (ballot_of r n)). inl s) (in_either _ st.sent (ballot_of r n) h);
      said = λ l n h by. one_of e m n sent_now l (spoken l h) by;
      backs = λ q h. ⊎_elim (λ (a : In (option_to_list (option_map letter (step (st.acceptor m)).answer)) q). inr (is_backed q a)) (λ (s : In st.sent q). inl s) (in_either _ st.sent q h);
      sender = λ l h. (spoken l h).sender;
      instances = λ f d. instance_other M.instances e instance_now f d;
      proposal = λ p is d. is;
    }

    pub acceptor_outcome : Outcome managers c m (sends (with_instance M e instance_now) letters_now)
    acceptor_outcome = moving (with_instance M e instance_now) letters_now None e acceptor_moves refl refl (inl refl) (le_refl M.held.epoch)
        (λ l v h says. absurd (reports_none (step known_instance.acceptor).answer l v h says)) (λ l v h says. (spoken l h).starts_none v says)

  -- ---- the latest proposal is delivered an answer
  module _ (e : ℕ) (paxos : PaxosLetter) (p after : Proposer) (new : List PaxosLetter)
      (was_sent : In (sound.runs e).state.sent paxos) (is : M.proposal ≡ Some p) (of : p.epoch ≡ e) (same_epoch : after.epoch ≡ p.epoch)
      (makes : delivered (sound.runs e).state m paxos ≡ record (sound.runs e).state { proposer = put m (Some after) (sound.runs e).state.proposer; sent = new ++ (sound.runs e).state.sent })
      (asks_none : (ballot : Ballot) → In new (PrepareLetter ballot) → ⊥) where
    abbrev pub proposed : PaxosState
    proposed = record (sound.runs e).state { proposer = put m (Some after) (sound.runs e).state.proposer; sent = new ++ (sound.runs e).state.sent }

    pub proposed_views : AllViews (Follows c.learned e) proposed
    proposed_views = subst (λ (x : PaxosState). AllViews (Follows c.learned e) x) makes
        (event_keeps (Follows c.learned e) e managers (sound.runs e).state (sound.runs e).views (Deliver m paxos) (record { known = known; running = (sound.runs e).up m }, was_sent) tt)

    pub same_some : (x y : Proposer) → Some x ≡ Some y → x ≡ y
    same_some x y h = cc

    abbrev pub proposer_moves : (now : ManagerState) (letters : List Letter) → now.instances ≡ M.instances → now.proposal ≡ Some after → ((l : Letter) → In letters l → Spoken e m (new ++ (sound.runs e).state.sent) l) →
        ((q : PaxosLetter) → In new q → IsBacked letters e q) → Moves managers c.manager c.sent c.learned m now letters e (sound.runs e).state
    proposer_moves now letters instances proposal spoken backed = record {
      event = Deliver m paxos;
      may = (record { known = known; running = (sound.runs e).up m }, was_sent);
      proposes = tt;
      state = proposed;
      made = makes;
      stopped = λ n. refl;
      its_acceptor = (sound.runs e).acceptors m ∙ ap (λ (x : List (ℕ × Instance)). (instance_at e x).acceptor) (sym instances);
      acceptors = λ n d. refl;
      its_proposal = λ q h k. put_here m (Some after) (sound.runs e).state.proposer ∙ sym proposal ∙ h;
      proposers = λ n d. put_there m (Some after) (sound.runs e).state.proposer n d;
      grows = λ l h. in_right new (sound.runs e).state.sent l h;
      round = rw instances (le_refl (instance_at e M.instances).round);
      prepares = λ n r h. ⊎_elim (λ (a : In new (ballot_of r n)). absurd (asks_none _ a)) (λ (s : In (sound.runs e).state.sent (ballot_of r n)). inl s) (in_either new (sound.runs e).state.sent (ballot_of r n) h);
      said = λ l n h by. one_of e m n (new ++ (sound.runs e).state.sent) l (spoken l h) by;
      backs = λ q h. ⊎_elim (λ (a : In new q). inr (backed q a)) (λ (s : In (sound.runs e).state.sent q). inl s) (in_either new (sound.runs e).state.sent q h);
      sender = λ l h. (spoken l h).sender;
      instances = λ f d. ap (λ (x : List (ℕ × Instance)). instance_at f x) instances;
      proposal = λ q h d. absurd (d (ap (λ (x : Proposer). x.epoch) (sym (same_some after q (sym proposal ∙ h))) ∙ same_epoch ∙ of));
    }
