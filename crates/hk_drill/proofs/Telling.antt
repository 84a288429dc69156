-- What is written, one piece after the other, is what the definition tells.
use Rattle.std.proofs.Common.{◌≡◌, ℕ, ◌+◌, ◌<◌, ◌≤◌, List, [], ◌++◌, length, take, drop, get_or, Option, Some, None, Result, Ok, Err, refl, sym, ap, subst, ◌∙◌, arith, append-nil, append_assoc}
use Rattle.std.specs.Prelude.{IfErr}
use Rattle.std.specs.Io.KnownBytes.{Appends}
use Rattle.std.proofs.lemmas.List.{at_drop_more}
use Rattle.hk_safety.specs.Run.{RunState, history, printed}
use Rattle.hk_drill.specs.declared.stop.Stop.{Stop}
use Rattle.hk_drill.specs.declared.fault.Fault.{Fault}
use Rattle.hk_drill.specs.declared.fault.Fault.TheVariants.{Memory, Read, Write}
use Rattle.hk_drill.specs.Keys.{key_text}
use Rattle.hk_drill.specs.Transcript.{DrillState, Outcome, behind, lines_of, keys_text, status_of, stop_text, written, written_of}
use Rattle.hk_drill.specs.Progress.{HasFront, IsRest, further, ending}
use Rattle.hk_drill.specs.Drilled.{IsSinkFault}
use Rattle.hk_drill.proofs.Cutting.{take_drop}

-- ---- bytes that are written
pub appends_none : (held : Option (List ℕ)) → Appends held held []
appends_none None = tt
appends_none (Some xs) = sym (append-nil xs)

pub appends_more : (old mid new : Option (List ℕ)) (a b : List ℕ) → Appends old mid a → Appends mid new b → Appends old new (a ++ b)
appends_more None mid new a b h k = tt
appends_more (Some xs) None new a b h k = absurd h
appends_more (Some xs) (Some ys) None a b h k = absurd k
appends_more (Some xs) (Some ys) (Some zs) a b h k = rw (k, h) (append_assoc xs a b)

pub appends_same : (old new : Option (List ℕ)) (a b : List ℕ) → a ≡ b → Appends old new a → Appends old new b
appends_same old new a b e h = subst (Appends old new) e h

-- ---- fronts
pub front_nothing : (held : Option (List ℕ)) (text : List ℕ) → HasFront held held text
front_nothing held text = record { front = []; rest = text; same = refl; put = appends_none held }

pub front_taken : (old new : Option (List ℕ)) (text : List ℕ) (n : ℕ) → Appends old new (take n text) → HasFront old new text
front_taken old new text n put = record { front = take n text; rest = drop n text; same = take_drop n text; put = put }

pub front_same : (old new : Option (List ℕ)) (a b : List ℕ) → a ≡ b → HasFront old new a → HasFront old new b
front_same old new a b e h = subst (HasFront old new) e h

pub front_longer : (old new : Option (List ℕ)) (a b : List ℕ) → HasFront old new a → HasFront old new (a ++ b)
front_longer old new a b h = record { front = h.front; rest = h.rest ++ b; same = ap (λ (t : List ℕ). t ++ b) h.same ∙ append_assoc h.front h.rest b; put = h.put }

pub front_behind : (old mid new : Option (List ℕ)) (a b : List ℕ) → Appends old mid a → HasFront mid new b → HasFront old new (a ++ b)
front_behind old mid new a b put h = record {
  front = a ++ h.front;
  rest = h.rest;
  same = ap (λ (t : List ℕ). a ++ t) h.same ∙ sym (append_assoc a h.front h.rest);
  put = appends_more old mid new a h.front put h.put;
}

-- ---- counts of faults
pub fault_later : (before mid now : ℕ) (fault : Fault) → before ≤ mid → IsSinkFault mid now fault → IsSinkFault before now fault
fault_later before mid now Memory later is = tt
fault_later before mid now Read later is = is
fault_later before mid now Write later is = omega (arith, later, is)

pub faults_later : {T : Type 0} (r : Result T Fault) (before mid now : ℕ) → before ≤ mid → IfErr r (IsSinkFault mid now) → IfErr r (IsSinkFault before now)
faults_later (Ok x) before mid now later is = tt
faults_later (Err fault) before mid now later is = fault_later before mid now fault later is

-- ---- the keys of a run
-- the keys before one were written
pub record KeysPut (old now : Option (List ℕ)) (run : RunState) (keys left : List (List ℕ)) : Type 0 where
  pub done : List ℕ
  pub same : keys_text run keys ≡ done ++ keys_text run left
  pub put : Appends old now done

pub keys_begin : (held : Option (List ℕ)) (run : RunState) (keys : List (List ℕ)) → KeysPut held held run keys keys
keys_begin held run keys = record { done = []; same = refl; put = appends_none held }

abbrev pub told_key : RunState → List ℕ → List ℕ
told_key run key = key_text key (history run key) (printed run key)

module _ (old mid : Option (List ℕ)) (run : RunState) (keys : List (List ℕ)) (i : ℕ) (key : List ℕ) (within : i < length keys) (put : KeysPut old mid run keys (drop i keys))
    (is_key : key ≡ get_or keys i key) where
  key_same : keys_text run keys ≡ put.done ++ (told_key run key ++ keys_text run (drop (i + 1) keys))
  key_same = put.same ∙ ap (λ (t : List ℕ). put.done ++ t) (at_drop_more (keys_text run) keys i key within ∙ ap (λ (k : List ℕ). told_key run k ++ keys_text run (drop (i + 1) keys)) (sym is_key))

  pub key_put : (new : Option (List ℕ)) → Appends mid new (told_key run key) → KeysPut old new run keys (drop (i + 1) keys)
  key_put new more = record {
    done = put.done ++ told_key run key;
    same = key_same ∙ sym (append_assoc put.done (told_key run key) (keys_text run (drop (i + 1) keys)));
    put = appends_more old mid new put.done (told_key run key) put.put more;
  }

  pub key_front : (new : Option (List ℕ)) → HasFront mid new (told_key run key) → HasFront old new (keys_text run keys)
  key_front new front =
      front_same old new (put.done ++ (told_key run key ++ keys_text run (drop (i + 1) keys))) (keys_text run keys) (sym key_same)
      (front_behind old mid new put.done (told_key run key ++ keys_text run (drop (i + 1) keys)) put.put (front_longer mid new (told_key run key) (keys_text run (drop (i + 1) keys)) front))

pub keys_done : (old now : Option (List ℕ)) (run : RunState) (keys left : List (List ℕ)) → KeysPut old now run keys left → left ≡ [] → Appends old now (keys_text run keys)
keys_done old now run keys left put e =
    appends_same old now put.done (keys_text run keys) (sym (append-nil put.done) ∙ ap (λ (l : List (List ℕ)). put.done ++ keys_text run l) (sym e) ∙ sym put.same) put.put

-- ---- the end of a script
written_behind : (text more : List ℕ) (stop : Option (ℕ × Stop)) (state : Option DrillState) → (written (text ++ more) stop state).text ≡ text ++ (written more stop state).text
written_behind text more None state = append_assoc text more _
written_behind text more (Some stop) state = append_assoc text more _

written_status : (text more : List ℕ) (stop : Option (ℕ × Stop)) (state : Option DrillState) → (written text stop state).status ≡ (written more stop state).status
written_status text more None state = refl
written_status text more (Some stop) state = refl

pub behind_text : (text : List ℕ) (f : Outcome) → (written_of (behind text f)).text ≡ text ++ (written_of f).text
behind_text text f = written_behind text f.text f.stop f.state

pub behind_status : (text : List ℕ) (f : Outcome) → (written_of (behind text f)).status ≡ (written_of f).status
behind_status text f = written_status (text ++ f.text) f.text f.stop f.state

pub stopped_text : (f : Outcome) (told : List ℕ) (n : ℕ) (stop : Stop) → f.text ≡ told → f.stop ≡ Some (n, stop) → (written_of f).text ≡ told ++ stop_text n stop
stopped_text f told n stop e is = ap (λ s. (written f.text s f.state).text) is ∙ ap (λ (t : List ℕ). t ++ stop_text n stop) e

pub stopped_status : (f : Outcome) (n : ℕ) (stop : Stop) → f.stop ≡ Some (n, stop) → (written_of f).status ≡ status_of stop
stopped_status f n stop is = ap (λ s. (written f.text s f.state).status) is

-- ---- what a script tells behind which no line comes
pub rest_text : (stop : Option Stop) (n m : ℕ) (part : List ℕ) (state next : Option DrillState) (before after : List ℕ) → stop ≡ None → before ≡ [] → IsRest stop n part state m next before after
    → (ending n part state).text ≡ after ++ (written_of (further m next [])).text
rest_text None n m part state next before after e empty rest =
    ap (λ f. (written_of f).text) rest.2 ∙ behind_text rest.0 (further m next [])
    ∙ ap (λ (t : List ℕ). t ++ (written_of (further m next [])).text) (sym (rest.1 ∙ ap (λ (t : List ℕ). t ++ rest.0) empty))
rest_text (Some stop) n m part state next before after e empty rest = absurd (cc)

pub rest_status : (stop : Option Stop) (n m : ℕ) (part : List ℕ) (state next : Option DrillState) (before after : List ℕ) → stop ≡ None → IsRest stop n part state m next before after
    → (ending n part state).status ≡ (written_of (further m next [])).status
rest_status None n m part state next before after e rest = ap (λ f. (written_of f).status) rest.2 ∙ behind_status rest.0 (further m next [])
rest_status (Some stop) n m part state next before after e rest = absurd (cc)

pub rest_stop_text : (stop : Option Stop) (s : Stop) (n m : ℕ) (part : List ℕ) (state next : Option DrillState) (before after : List ℕ) → stop ≡ Some s → before ≡ [] → IsRest stop n part state m next before after
    → (ending n part state).text ≡ after ++ stop_text m s
rest_stop_text None s n m part state next before after e empty rest = absurd (cc)
rest_stop_text (Some t) s n m part state next before after e empty rest =
    let same : t ≡ s = some_same t s e in
    stopped_text (further n state (lines_of part)) [] n t rest.2 rest.3
    ∙ ap (λ k. stop_text k t) (sym rest.1) ∙ ap (stop_text m) same ∙ ap (λ (x : List ℕ). x ++ stop_text m s) (sym (rest.0 ∙ empty))
  where
    some_same : (a b : Stop) → ◌≡◌ {A = Option Stop} (Some a) (Some b) → a ≡ b
    some_same a b p = cc

pub rest_stop_status : (stop : Option Stop) (s : Stop) (n m : ℕ) (part : List ℕ) (state next : Option DrillState) (before after : List ℕ) → stop ≡ Some s → IsRest stop n part state m next before after
    → (ending n part state).status ≡ status_of s
rest_stop_status None s n m part state next before after e rest = absurd (cc)
rest_stop_status (Some t) s n m part state next before after e rest =
    let same : t ≡ s = some_same t s e in
    stopped_status (further n state (lines_of part)) n t rest.3 ∙ ap status_of same
  where
    some_same : (a b : Stop) → ◌≡◌ {A = Option Stop} (Some a) (Some b) → a ≡ b
    some_same a b p = cc
