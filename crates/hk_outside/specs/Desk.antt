-- What a desk was asked and told.
use Rattle.std.specs.Prelude.{◌≡◌, ℕ, List, [], ◌∷◌, ◌++◌, Option, None, Some, Result, Ok, Err, ⊤, Bool, true, false, IsTrue, if◌then◌else◌}
use Rattle.hk_base.specs.declared.call.Op.{Op}
use Rattle.hk_base.specs.declared.call.Op.TheVariants.{Read, Write, Cas, Incr, Decr, Add, Replace, Delete}
use Rattle.hk_base.specs.declared.call.Answer.{Answer}
use Rattle.hk_base.specs.declared.call.Answer.TheVariants.{Found, Missing, Stored, Number, Exists, NotFound, NotNumber, NotStored, Deleted, Busy, Aborted, Exhausted}
use Rattle.hk_base.specs.declared.call.Why.TheVariants.{Lease}
use Rattle.hk_base.specs.Register.{Register, act}
use Rattle.hk_outside.specs.declared.desk.Asked.{Asked}
use Rattle.hk_outside.specs.declared.desk.Asked.TheVariants.{Replied, NoMemory}
use Rattle.hk_outside.specs.declared.desk.Begun.{Begun}
use Rattle.hk_outside.specs.declared.desk.Begun.TheVariants as begun
use Rattle.hk_outside.specs.declared.desk.DeskReply.{DeskReply}
use Rattle.hk_outside.specs.declared.desk.DeskReply.TheVariants.{Told, Unknown, Spent}

-- how an ask stands in the list of asks: one that found no memory stands alone, without its key and operation
abbrev pub asked_of : {E : Type 0} → List ℕ → Op → Result DeskReply E → Asked
asked_of key op (Ok reply) = Replied key op reply
asked_of key op (Err e) = NoMemory

-- the list of asks after one more, where the desk tells it: a desk that tells the list told it before, and the
-- list has this ask at its end
abbrev pub Asks : {E : Type 0} → Option (List Asked) → Option (List Asked) → List ℕ → Op → Result DeskReply E → Type 0
Asks before None key op result = ⊤
Asks None (Some now) key op result = ⊥
Asks (Some before) (Some now) key op result = now ≡ before ++ asked_of key op result ∷ []

abbrev pub is_busy : DeskReply → Bool
is_busy (Told (Busy why)) = true
is_busy reply = false

-- it is not refused for now
abbrev pub IsSettled : {E : Type 0} → Result DeskReply E → Type 0
IsSettled (Ok reply) = is_busy reply ≡ false
IsSettled (Err e) = ⊤

-- The list of asks after one more began, where the desk tells it: it has this ask at its end, with what it was told, or will be told.
abbrev pub Begins : {W E : Type 0} → (W → Result DeskReply E) → Option (List Asked) → Option (List Asked) → List ℕ → Op → Result (Begun W) E → Type 0
Begins {E = E} will before now key op (Ok (begun.Told reply)) = Asks {E = E} before now key op (Ok reply)
Begins will before now key op (Ok (begun.Waits w)) = Asks before now key op (will w)
Begins {E = E} will before now key op (Err e) = Asks {E = E} before now key op (Err e)

-- What waits is told what it was to be told, where the desk tells its asks: the list has it already.
abbrev pub Finishes : {E : Type 0} → Option (List Asked) → Option (List Asked) → Result DeskReply E → Result DeskReply E → Type 0
Finishes before None will result = ⊤
Finishes None (Some now) will result = ⊥
Finishes (Some before) (Some now) will result = (now ≡ before) × (result ≡ will)

-- whether an answer can be one to an operation
abbrev pub answers : Op → Answer → Bool
answers op (Busy why) = true
answers Read (Found content tag) = true
answers Read Missing = true
answers (Write c) Stored = true
answers (Write c) (Exhausted s) = true
answers (Cas t c) Stored = true
answers (Cas t c) Exists = true
answers (Cas t c) NotFound = true
answers (Cas t c) (Aborted s) = true
answers (Cas t c) (Exhausted s) = true
answers (Incr n) (Number v) = true
answers (Incr n) NotFound = true
answers (Incr n) NotNumber = true
answers (Incr n) (Aborted s) = true
answers (Incr n) (Exhausted s) = true
answers (Decr n) (Number v) = true
answers (Decr n) NotFound = true
answers (Decr n) NotNumber = true
answers (Decr n) (Aborted s) = true
answers (Decr n) (Exhausted s) = true
answers (Add c) Stored = true
answers (Add c) NotStored = true
answers (Add c) (Aborted s) = true
answers (Add c) (Exhausted s) = true
answers (Replace c) Stored = true
answers (Replace c) NotStored = true
answers (Replace c) (Aborted s) = true
answers (Replace c) (Exhausted s) = true
answers Delete Deleted = true
answers Delete NotFound = true
answers Delete (Aborted s) = true
answers Delete (Exhausted s) = true
answers op answer = false

-- what an operation answers on a register can be an answer to it
abbrev pub ActSuits : Type 0
ActSuits = (op : Op) (register : Register) (newtag : ℕ) → answers op (act op register newtag).answer ≡ true

abbrev pub is_update : Op → Bool
is_update Read = false
is_update op = true

-- whether a desk may tell this of an operation: an answer that fits it, an unknown outcome of an update alone
abbrev pub suits : Op → DeskReply → Bool
suits op (Told answer) = answers op answer
suits op (Unknown turns) = is_update op
suits op (Spent asks) = true

-- what a desk tells suits the operation
abbrev pub Suits : {E : Type 0} → Op → Result DeskReply E → Type 0
Suits op (Ok reply) = IsTrue (suits op reply)
Suits op (Err e) = ⊤

-- what is told at once suits the operation; what waits is that operation
abbrev pub BeginSuits : {W E : Type 0} → (W → Op) → Op → Result (Begun W) E → Type 0
BeginSuits op_of op (Ok (begun.Told reply)) = IsTrue (suits op reply)
BeginSuits op_of op (Ok (begun.Waits w)) = op_of w ≡ op
BeginSuits op_of op (Err e) = ⊤

-- what a desk with a list of replies tells: the first, where it suits; else Busy of a lease that ended at 0, now 1
abbrev pub next_of : Op → List DeskReply → DeskReply
next_of op [] = Told (Busy (Lease 0 1))
next_of op (reply ∷ replies) = if suits op reply then reply else Told (Busy (Lease 0 1))
