-- Steps that start an update: begin and replay are effects, two where the update completes at once.
use Rattle.std.proofs.Common.{◌≡◌, ℕ, Bool, true, false, ◌+◌, ◌*◌, ◌/◌, List, [], ◌∷◌, ◌++◌, map, ◌≤◌, ◌<◌, ◌∙◌, sym, refl, ap, subst, inl, inr, arith, Some, None, eqb}
use Rattle.hk_base.specs.declared.stamp.Stamp.{Stamp}
use Rattle.hk_base.specs.declared.call.State.TheVariants as State
use Rattle.hk_base.specs.declared.call.Op.{Op}
use Rattle.hk_base.specs.declared.call.Reply.{Reply}
use Rattle.hk_base.specs.Stamp.{tag_of}
use Rattle.hk_base.specs.View.{member_numbers}
use Rattle.hk_base.specs.Register.{act}
use Rattle.hk_key.specs.declared.row.Pending.{Pending}
use Rattle.hk_key.specs.declared.row.Row.{Row}
use Rattle.hk_key.specs.declared.out.Aim.TheVariants.{Others}
use Rattle.hk_key.specs.Notes.{all_noted, all_exact}
use Rattle.hk_key.specs.Table.{Done, started_at, completed_at, unnoted}
use Rattle.hk_register.specs.Machine.{In, WaitingUpdate, Node, Message, Mark, Update, Item, RegisterState}
use Rattle.hk_register.specs.Machine.Phase.{Valid, Invalid}
use Rattle.hk_register.specs.Machine.Message.{Inv}
use Rattle.hk_register.specs.Machine.Item.{Called}
use Rattle.hk_register.specs.Effects.{Change, Changes, Fresh, AllNoted, Leased, answer_of, row_mark, step_of, next_stamp, register_of}
use Rattle.hk_register.specs.Effects.Effect.{Begin, StartReplay}
use Rattle.hk_register.specs.Parts.{Parts}
use Rattle.hk_register.proofs.Grow.{in_left}
use Rattle.hk_node.specs.Node.{NodeState, epoch_of, members_of}
use Rattle.hk_node.specs.Sends.{addressees, sent}
use Rattle.hk_node.specs.Calls.{kind_of}
use Rattle.hk_effects.specs.Projection.{note_of, phase_of, row_node, letters_of}
use Rattle.hk_effects.specs.Laws.{OneEffect}
use Rattle.hk_effects.proofs.Frames.{itself, narrow}
use Rattle.hk_effects.proofs.Marks.{row_is_new}
use Rattle.hk_effects.proofs.TwoEffects.{mid_state, at_mid, mid_change, second_change}
use Rattle.hk_effects.proofs.Acts.{alike, takes_tag, plain_is_blind}
use Rattle.hk_effects.proofs.Sends.{inv_within, inv_no_acks}
use Rattle.hk_effects.proofs.Replies.{reply_items, answers_are}
use Rattle.hk_effects.proofs.Shapes.{IsShaped, all_noted_true, completed_calm, completed_stamp, completed_reply, completed_same}
use Rattle.hk_effects.proofs.Steps.{Owes, plain_change, inv_change, completed_acks, complete_effect}

-- nobody else is in the view
pub alone : (V : ℕ → List ℕ) (x : NodeState) → member_numbers (members_of x) ≡ V (epoch_of x) → all_noted x.id (members_of x) [] ≡ true → AllNoted V (epoch_of x) x.id.0 []
alone V x members e m h other = all_noted_true x.id (members_of x) [] e m (rw members h) other

-- a row with an update that waits
abbrev pub waiting : Row → Pending → Row
waiting row p = record row { pending = Some p }

-- The second of two effects: the update that the first one left pending completes at once.
pub then_completes : (V : ℕ → List ℕ) (st : RegisterState) (key : List ℕ) (x : NodeState) (c : Bool) (row : Row) (p : Pending) (ls' : List Message) (ks ms : List Mark) (us : List Update) (hs' : List Item) → p.acks ≡ [] → IsShaped row.state (Some p) →
    AllNoted V (epoch_of x) x.id.0 [] → (b d : Bool) → eqb (tag_of row.stamp) (tag_of p.stamp) ≡ b → all_exact p.acks ≡ d → (new : RegisterState) → ((k : Mark) → In ks k → In ms k) → ((k : Mark) → In ms k → In ks k) →
    Change st new x.id.0 (row_node x c (completed_at b d row p).row) (letters_of key (sent x key (completed_at b d row p).row (completed_at b d row p).out.send)) ms us (answer_of p.reply (tag_of p.stamp) ++ hs') →
    OneEffect V (mid_state st x.id.0 (row_node x c (waiting row p)) ls' ks us hs') new
then_completes V st key x c row p ls' ks ms us hs' none shaped noted b d eb ed new there back ch =
    let mid = mid_state st x.id.0 (row_node x c (waiting row p)) ls' ks us hs' in
    let answers = answer_of p.reply (tag_of p.stamp) in
    let ended = completed_at b d row p in
    let ls = letters_of key (sent x key ended.row ended.out.send) in
    let second : Change mid new x.id.0 (row_node x c ended.row) ls ms [] answers =
    second_change st new x.id.0 (row_node x c (waiting row p)) (row_node x c ended.row) ls' ls ks ms us hs' answers ch (λ k h. ch.marks_new k (there k h)) in
    let fewer : Change mid new x.id.0 (row_node x c ended.row) ls [] [] answers =
    narrow mid new x.id.0 (row_node x c ended.row) ls ls ms [] [] answers (λ l h. h) (λ k h. absurd h) (λ k h. (k, itself k, inr (k, itself k, in_left ks st.marks k (back k h)))) second in
    let noted' : AllNoted V (epoch_of x) x.id.0 (map note_of p.acks) = rw none noted in
    complete_effect V mid x c key (waiting row p) p (at_mid st x.id.0 (row_node x c (waiting row p)) ls' ks us hs') refl shaped noted' b d eb ed new
    (subst (λ (w : Done). Change mid new x.id.0 (row_node x c w.row) (letters_of key (sent x key w.row w.out.send)) [] [] answers) (sym (completed_same b d row p)) fewer)

next_is : (v m s n : ℕ) → m < 65536 → (v + s) * 65536 + n ≡ ((v * 65536 + m) / 65536 + s) * 65536 + n
next_is v m s n small = omega arith

-- the row that is replayed, and the update
abbrev pub replaying : Row → Row
replaying row = record row { state = State.Replay }

abbrev pub replayed_update : Row → Pending
replayed_update row = unnoted None row.stamp row.kind row.content

-- the row that begins an update, the update, its call's reply, and what the register notes of it
abbrev pub beginning : Op → Row → Stamp → Row
beginning op row s = record { state = State.Write; stamp = s; kind = kind_of op; content = (act op (register_of row.content (tag_of row.stamp)) (tag_of s)).register.content; kept_val = false; pending = None }

abbrev pub begun_reply : ℕ → Op → Row → Stamp → Reply
begun_reply call op row s = record { call = record { 0 = call }; answer = (act op (register_of row.content (tag_of row.stamp)) (tag_of s)).answer }

abbrev pub begun_update : ℕ → Op → Row → Stamp → Pending
begun_update call op row s = unnoted (Some (begun_reply call op row s)) s (kind_of op) (act op (register_of row.content (tag_of row.stamp)) (tag_of s)).register.content

abbrev pub noted_update : ℕ → ℕ → Op → Row → Stamp → Update
noted_update n call op row s = record {
  stamp = tag_of s;
  base = tag_of row.stamp;
  kind = kind_of op;
  content = (act op (register_of row.content (tag_of row.stamp)) (tag_of s)).register.content;
  op = op;
  answer = (act op (register_of row.content (tag_of row.stamp)) (tag_of s)).answer;
  who = n;
  call = call;
}

module _ (V : ℕ → List ℕ) (st : RegisterState) (parts : Parts V st) (key : List ℕ) (x : NodeState) (c : Bool) (row : Row) (is : st.node x.id.0 ≡ row_node x c row) (members : member_numbers (members_of x) ≡ V (epoch_of x)) where
  -- a replay
  replay_effect : row.state ≡ State.Invalid → x.ready ≡ true → (to : RegisterState) → Change st to x.id.0 (row_node x c (waiting (replaying row) (replayed_update row))) (Inv x.id.0 (epoch_of x) (tag_of row.stamp) row.kind row.content ∷ []) [] [] [] → OneEffect V st to
  replay_effect invalid ready to ch = let phase : phase_of row.state row.pending ≡ Invalid = rw invalid refl in (StartReplay x.id.0, record { allowed = (rw is ready, rw is phase); change = rw is ch })

  replay_ends : row.state ≡ State.Invalid → x.ready ≡ true → all_noted x.id (members_of x) [] ≡ true → (b : Bool) → eqb (tag_of row.stamp) (tag_of row.stamp) ≡ b →
      Owes V st parts key x c row is (completed_at b true (replaying row) (replayed_update row)) [] []
  replay_ends invalid ready a b eb new ch =
      let p = replayed_update row in
      let r = replaying row in
      let ended = completed_at b true r p in
      let ls = letters_of key (sent x key ended.row ended.out.send) in
      let first = Inv x.id.0 (epoch_of x) (tag_of row.stamp) row.kind row.content ∷ [] in
      let whole : Change st new x.id.0 (row_node x c ended.row) ls [] [] [] =
      plain_change V st parts key x c row is ended.row ls ls [] new (completed_stamp b true r p) (λ q has. absurd (completed_calm b true r p q has)) (completed_acks key x x.id.0 (row_node x c ended.row) b true r p) (λ l h. h) ch in
      let mid = mid_state st x.id.0 (row_node x c (waiting r p)) first [] [] [] in
      inr (
        mid,
        replay_effect invalid ready mid (mid_change st x.id.0 (row_node x c (waiting r p)) first [] [] []),
        then_completes V st key x c r p first [] [] [] [] refl (p, refl) (alone V x members a) b true eb refl new (λ k h. h) (λ k h. h) whole,
      )

  pub replay_step : row.state ≡ State.Invalid → x.ready ≡ true → (all : Bool) → all_noted x.id (members_of x) [] ≡ all →
      Owes V st parts key x c row is (started_at all (replaying row) (replayed_update row)) [] []
  replay_step invalid ready false a new ch =
      inl (replay_effect invalid ready new (inv_change V st parts key x c row is (waiting (replaying row) (replayed_update row)) row.stamp row.kind row.content (addressees x (waiting (replaying row) (replayed_update row)) Others) [] new refl
      (λ p has. inl (sym (ap (λ (z : WaitingUpdate). z.stamp) has))) ch))
  replay_step invalid ready true a new ch = replay_ends invalid ready a (eqb (tag_of row.stamp) (tag_of row.stamp)) refl new ch

  -- a begin
  module _ (call : ℕ) (op : Op) (s : Stamp) (valid : row.state ≡ State.Valid) (ready : x.ready ≡ true) (leased : Leased V st x.id.0) (small : x.id.0 < 65536) (node : row.stamp.node < 65536) (fresh : Fresh st call) (some : 1 ≤ epoch_of x)
      (stamp : s ≡ record { version = row.stamp.version + step_of (kind_of op); node = x.id.0 }) (changes : (act op (register_of row.content (tag_of row.stamp)) (tag_of s)).changed ≡ true) where
    begin_effect : (to : RegisterState) →
        Change st to x.id.0 (row_node x c (waiting (beginning op row s) (begun_update call op row s))) (Inv x.id.0 (epoch_of x) (tag_of s) (kind_of op) (act op (register_of row.content (tag_of row.stamp)) (tag_of s)).register.content ∷ [])
        (row_mark x.id.0 (row_node x c (waiting (beginning op row s) (begun_update call op row s))) ∷ []) (noted_update x.id.0 call op row s ∷ []) (Called call (tag_of s) op ∷ []) → OneEffect V st to
    begin_effect to ch =
        let phase : phase_of row.state row.pending ≡ Valid = rw valid refl in
        let u = noted_update x.id.0 call op row s in
        let made : Changes u row.content = record { changed = changes; register = takes_tag op row.content (tag_of row.stamp) (tag_of s) changes; answer = refl; answered = (alike op row.content (tag_of row.stamp) (tag_of s) 0).answered } in
        let next : tag_of s ≡ next_stamp (kind_of op) (tag_of row.stamp) x.id.0 = ap tag_of stamp ∙ next_is row.stamp.version row.stamp.node (step_of (kind_of op)) x.id.0 node in
        (Begin x.id.0 u, record { allowed = (rw is ready, rw is phase, leased, small, refl, rw is refl, next, plain_is_blind op, rw is made, fresh); change = rw is ch })

    begin_ends : all_noted x.id (members_of x) [] ≡ true → (b : Bool) → eqb (tag_of s) (tag_of s) ≡ b →
        Owes V st parts key x c row is (completed_at b true (beginning op row s) (begun_update call op row s)) (noted_update x.id.0 call op row s ∷ []) (reply_items (tag_of s) (completed_at b true (beginning op row s) (begun_update call op row s)).out.reply ++ Called call (tag_of s) op ∷ [])
    begin_ends a b eb new ch =
        let p = begun_update call op row s in
        let r = beginning op row s in
        let ended = completed_at b true r p in
        let z : Node = row_node x c ended.row in
        let ls = letters_of key (sent x key ended.row ended.out.send) in
        let us = noted_update x.id.0 call op row s ∷ [] in
        let hs' = Called call (tag_of s) op ∷ [] in
        let first = Inv x.id.0 (epoch_of x) (tag_of s) (kind_of op) (act op (register_of row.content (tag_of row.stamp)) (tag_of s)).register.content ∷ [] in
        let k0 : Mark = row_mark x.id.0 (row_node x c (waiting r p)) in
        let own : row_mark x.id.0 z ≡ k0 = ap (λ (t : Stamp). record k0 { stamp = tag_of t }) (completed_stamp b true r p) in
        let said : reply_items (tag_of s) ended.out.reply ≡ answer_of p.reply (tag_of s) = ap (reply_items (tag_of s)) (completed_reply b true r p) ∙ answers_are (tag_of s) p.reply (alike op row.content (tag_of row.stamp) (tag_of s) 0).answered in
        let with_mark : Change st new x.id.0 z ls (row_mark x.id.0 z ∷ []) us (answer_of p.reply (tag_of s) ++ hs') =
        subst (λ (h : List Item). Change st new x.id.0 z ls (row_mark x.id.0 z ∷ []) us (h ++ hs')) said
        (row_is_new st x.id.0 z new (row_node x c row) ls ls ls us (reply_items (tag_of s) ended.out.reply ++ hs') some refl (λ q has. absurd (completed_calm b true r p q has)) (λ l h. h)
        (λ k h. let none : In [] k = rw (completed_acks key x x.id.0 z b true r p) at h in absurd none) ch) in
        let mid = mid_state st x.id.0 (row_node x c (waiting r p)) first (k0 ∷ []) us hs' in
        inr (
          mid,
          begin_effect mid (mid_change st x.id.0 (row_node x c (waiting r p)) first (k0 ∷ []) us hs'),
          then_completes V st key x c r p first (k0 ∷ []) (row_mark x.id.0 z ∷ []) us hs' refl (p, refl) (alone V x members a) b true eb refl new (λ k h. rw own h) (λ k h. rw own at h) with_mark,
        )

    pub begin_step : (all : Bool) → all_noted x.id (members_of x) [] ≡ all →
        Owes V st parts key x c row is (started_at all (beginning op row s) (begun_update call op row s)) (noted_update x.id.0 call op row s ∷ []) (reply_items (tag_of s) (started_at all (beginning op row s) (begun_update call op row s)).out.reply ++ Called call (tag_of s) op ∷ [])
    begin_step false a new ch =
        let r = waiting (beginning op row s) (begun_update call op row s) in
        let con = (act op (register_of row.content (tag_of row.stamp)) (tag_of s)).register.content in
        let ns = addressees x r Others in
        let ls = letters_of key (sent x key r (started_at false (beginning op row s) (begun_update call op row s)).out.send) in
        inl (begin_effect new (row_is_new st x.id.0 (row_node x c r) new (row_node x c row) ls ls (Inv x.id.0 (epoch_of x) (tag_of s) (kind_of op) con ∷ []) (noted_update x.id.0 call op row s ∷ []) (Called call (tag_of s) op ∷ []) some refl
        (λ p has. inl (sym (ap (λ (z : WaitingUpdate). z.stamp) has)))
        (inv_within key x s (kind_of op) con ns)
        (λ k h. let none : In [] k = rw (inv_no_acks key x x.id.0 (row_node x c r) s (kind_of op) con ns) at h in absurd none) ch))
    begin_step true a new ch = begin_ends a (eqb (tag_of s) (tag_of s)) refl new ch
