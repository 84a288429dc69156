-- What each line is read as. That this turns specs/Grammar.antt around is proved in proofs/Exact.antt.
use Rattle.std.specs.Prelude.{ℕ, List, [], ◌∷◌, Bool, Option, None, Some, ◌&&◌, if◌then◌else◌, codes}
use Rattle.std.specs.Option.{option_map}
use Rattle.hk_base.specs.declared.call.Content.{Content}
use Rattle.hk_base.specs.declared.call.Op.{Op}
use Rattle.hk_base.specs.declared.call.Op.TheVariants.{Read, Write, Cas, Incr, Decr, Replace, Delete}
use Rattle.hk_base.specs.declared.call.Op.TheVariants as operation
use Rattle.hk_base.specs.declared.letter.Actor.{Actor}
use Rattle.hk_base.specs.declared.view.Change.{Change}
use Rattle.hk_base.specs.declared.view.Change.TheVariants.{Drop, Add}
use Rattle.hk_event.specs.declared.event.Header.{Header}
use Rattle.hk_event.specs.declared.event.Event.{Event}
use Rattle.hk_event.specs.declared.event.Event.TheVariants.{Call, Take, Tick, TickAll, Crash, Resend, Replay, Copy, Start, Agree, Install, Lease, AskLease, Propose, Activate}
use Rattle.hk_script.specs.Parts.{◌>>=◌, fields, is_text, number_of, number_64, flags_of, time_of, some_of, key_of, data_of, node_of, manager_of, actor_of, target_of}

-- ---- so many words, each by its reader
unfoldable pub none : {B : Type 0} → B → List (List ℕ) → Option B
none x [] = Some x
none x ws = None

unfoldable pub one : {A B : Type 0} → (List ℕ → Option A) → (A → B) → List (List ℕ) → Option B
one f make (a ∷ []) = option_map make (f a)
one f make ws = None

unfoldable pub two : {A B C : Type 0} → (List ℕ → Option A) → (List ℕ → Option B) → (A → B → C) → List (List ℕ) → Option C
two f g make (a ∷ b ∷ []) = do
  x ← f a
  y ← g b
  Some (make x y)
two f g make ws = None

unfoldable pub three : {A B C D : Type 0} → (List ℕ → Option A) → (List ℕ → Option B) → (List ℕ → Option C) → (A → B → C → D) → List (List ℕ) → Option D
three f g h make (a ∷ b ∷ c ∷ []) = do
  x ← f a
  y ← g b
  z ← h c
  Some (make x y z)
three f g h make ws = None

-- ---- operations and changes
abbrev pub content : ℕ → List ℕ → Content
content flags bytes = record { flags = flags; bytes = bytes }

-- a content in two words
abbrev pub content_of : List (List ℕ) → Option Content
content_of ws = two flags_of data_of content ws

-- the operation of this name, by the words behind its key
unfoldable pub op_of : List ℕ → List (List ℕ) → Option Op
op_of name ws =
    if is_text name (codes "get") then none Read ws
    else (if is_text name (codes "set") then option_map Write (content_of ws)
    else (if is_text name (codes "cas") then three flags_of data_of number_64 (λ f b t. Cas t (content f b)) ws
    else (if is_text name (codes "incr") then one number_64 Incr ws
    else (if is_text name (codes "decr") then one number_64 Decr ws
    else (if is_text name (codes "add") then option_map operation.Add (content_of ws)
    else (if is_text name (codes "replace") then option_map Replace (content_of ws)
    else (if is_text name (codes "delete") then none Delete ws
    else None)))))))

unfoldable pub change_of : List (List ℕ) → Option Change
change_of [] = None
change_of (name ∷ ws) =
    if is_text name (codes "drop") then one node_of Drop ws
    else (if is_text name (codes "add") then none Add ws else None)

-- ---- events, by the words behind the first
unfoldable pub call_of : List (List ℕ) → Option Event
call_of (n ∷ name ∷ k ∷ ws) = do
  id ← node_of n
  key ← key_of k
  op ← op_of name ws
  Some (Call id key op)
call_of ws = None

abbrev pub tick : Option Actor → ℕ → Event
tick (Some actor) to = Tick actor to
tick None to = TickAll to

unfoldable pub propose_of : List (List ℕ) → Option Event
propose_of (m ∷ b ∷ ws) = do
  manager ← manager_of m
  base ← number_64 b
  change ← change_of ws
  Some (Propose manager base change)
propose_of ws = None

-- events of the group
unfoldable pub group_event_of : List ℕ → List (List ℕ) → Option Event
group_event_of name ws =
    if is_text name (codes "agree") then option_map Agree (change_of ws)
    else (if is_text name (codes "install") then two node_of number_64 Install ws
    else (if is_text name (codes "lease") then two node_of time_of Lease ws
    else (if is_text name (codes "asklease") then two node_of manager_of AskLease ws
    else (if is_text name (codes "propose") then propose_of ws
    else (if is_text name (codes "activate") then one manager_of Activate ws
    else None)))))

-- events of one actor that name no key
unfoldable pub actor_event_of : List ℕ → List (List ℕ) → Option Event
actor_event_of name ws =
    if is_text name (codes "take") then one number_64 Take ws
    else (if is_text name (codes "tick") then two target_of time_of tick ws
    else (if is_text name (codes "crash") then one actor_of Crash ws
    else (if is_text name (codes "copy") then three node_of node_of (some_of 64) Copy ws
    else (if is_text name (codes "start") then one node_of Start ws
    else group_event_of name ws))))

-- the event that the words of a line are
unfoldable pub event_of_words : List (List ℕ) → Option Event
event_of_words [] = None
event_of_words (name ∷ ws) =
    if is_text name (codes "call") then call_of ws
    else (if is_text name (codes "resend") then two node_of key_of Resend ws
    else (if is_text name (codes "replay") then two node_of key_of Replay ws
    else actor_event_of name ws))

abbrev pub event_of : List ℕ → Option Event
event_of line = event_of_words (fields line)

-- ---- headers
abbrev pub header : ℕ → ℕ → ℕ → ℕ → Header
header managers nodes lease skew = record { nodes = nodes; managers = managers; lease = lease; skew = skew }

abbrev pub is_header : List ℕ → List ℕ → List ℕ → List ℕ → Bool
is_header group managers lease skew =
    is_text group (codes "group") && (is_text managers (codes "managers") && (is_text lease (codes "lease") && is_text skew (codes "skew")))

-- of so many managers
abbrev pub header_with : Option ℕ → List (List ℕ) → Option Header
header_with None ws = None
header_with (Some managers) ws = three (some_of 16) time_of time_of (header managers) ws

unfoldable pub header_of_words : List (List ℕ) → Option Header
header_of_words (a ∷ n ∷ b ∷ m ∷ d ∷ l ∷ e ∷ s ∷ []) = if is_header a b d e then header_with (number_of 9 m) (n ∷ l ∷ s ∷ []) else None
header_of_words ws = None

abbrev pub header_of : List ℕ → Option Header
header_of line = header_of_words (fields line)
