-- What an operation does does not depend on the new tag, but for the tag.
use Rattle.std.proofs.Common.{◌≡◌, ℕ, Bool, true, false, cond, Option, Some, None, refl, sym, ◌∙◌, eqb, IsTrue}
use Rattle.std.proofs.lemmas.Bool.{false≢true}
use Rattle.hk_base.specs.declared.call.Content.{Content}
use Rattle.hk_base.specs.declared.call.Op.{Op}
use Rattle.hk_base.specs.declared.call.Op.TheVariants.{Read, Write, Cas, Incr, Decr, Add, Replace, Delete}
use Rattle.hk_base.specs.declared.stamp.Kind.TheVariants as Kind
use Rattle.hk_base.specs.declared.call.Answer.TheVariants.{Stored, Exists}
use Rattle.hk_base.specs.Register.{Register, Acted, act, stays, changes, acts_number, number_in}
use Rattle.hk_history.specs.History.{is_answered}
use Rattle.hk_register.specs.Effects.{IsBlind}
use Rattle.hk_node.specs.Calls.{kind_of}

-- two outcomes that differ in the tag alone
pub record Alike (r : Register) (a b : Acted) : Type 0 where
  pub changed : a.changed ≡ b.changed
  pub answer : a.answer ≡ b.answer
  pub content : a.register.content ≡ b.register.content
  pub stays : a.changed ≡ false → b ≡ stays a.answer r
  pub answered : IsTrue (is_answered (Some a.answer))

alike_if : (r : Register) (b : Bool) (c : Content) (t u : ℕ) → Alike r (cond b (changes Stored c t) (stays Exists r)) (cond b (changes Stored c u) (stays Exists r))
alike_if r true c t u = record { changed = refl; answer = refl; content = refl; stays = λ e. absurd (false≢true (sym e)); answered = refl }
alike_if r false c t u = record { changed = refl; answer = refl; content = refl; stays = λ e. refl; answered = refl }

alike_number : (r : Register) (v : Option ℕ) (f : ℕ → ℕ) (c : Content) (t u : ℕ) → Alike r (acts_number v f c r t) (acts_number v f c r u)
alike_number r None f c t u = record { changed = refl; answer = refl; content = refl; stays = λ e. refl; answered = refl }
alike_number r (Some v) f c t u = record { changed = refl; answer = refl; content = refl; stays = λ e. absurd (false≢true (sym e)); answered = refl }

pub alike : (op : Op) (c : Option Content) (tag t u : ℕ) → Alike (record { content = c; tag = tag }) (act op (record { content = c; tag = tag }) t) (act op (record { content = c; tag = tag }) u)
alike Read None tag t u = record { changed = refl; answer = refl; content = refl; stays = λ e. refl; answered = refl }
alike (Write d) None tag t u = record { changed = refl; answer = refl; content = refl; stays = λ e. absurd (false≢true (sym e)); answered = refl }
alike (Cas k d) None tag t u = record { changed = refl; answer = refl; content = refl; stays = λ e. refl; answered = refl }
alike (Incr n) None tag t u = record { changed = refl; answer = refl; content = refl; stays = λ e. refl; answered = refl }
alike (Decr n) None tag t u = record { changed = refl; answer = refl; content = refl; stays = λ e. refl; answered = refl }
alike (Add d) None tag t u = record { changed = refl; answer = refl; content = refl; stays = λ e. absurd (false≢true (sym e)); answered = refl }
alike (Replace d) None tag t u = record { changed = refl; answer = refl; content = refl; stays = λ e. refl; answered = refl }
alike Delete None tag t u = record { changed = refl; answer = refl; content = refl; stays = λ e. refl; answered = refl }
alike Read (Some h) tag t u = record { changed = refl; answer = refl; content = refl; stays = λ e. refl; answered = refl }
alike (Write d) (Some h) tag t u = record { changed = refl; answer = refl; content = refl; stays = λ e. absurd (false≢true (sym e)); answered = refl }
alike (Cas k d) (Some h) tag t u = alike_if (record { content = Some h; tag = tag }) (eqb k tag) d t u
alike (Incr n) (Some h) tag t u = alike_number (record { content = Some h; tag = tag }) (number_in h.bytes) _ h t u
alike (Decr n) (Some h) tag t u = alike_number (record { content = Some h; tag = tag }) (number_in h.bytes) _ h t u
alike (Add d) (Some h) tag t u = record { changed = refl; answer = refl; content = refl; stays = λ e. refl; answered = refl }
alike (Replace d) (Some h) tag t u = record { changed = refl; answer = refl; content = refl; stays = λ e. absurd (false≢true (sym e)); answered = refl }
alike Delete (Some h) tag t u = record { changed = refl; answer = refl; content = refl; stays = λ e. absurd (false≢true (sym e)); answered = refl }

-- ---- a change takes the new tag
takes_if : (r : Register) (b : Bool) (c : Content) (t : ℕ) → (cond b (changes Stored c t) (stays Exists r)).changed ≡ true → (cond b (changes Stored c t) (stays Exists r)).register ≡ record { content = (cond b (changes Stored c t) (stays Exists r)).register.content; tag = t }
takes_if r true c t e = refl
takes_if r false c t e = absurd (false≢true e)

takes_number : (r : Register) (v : Option ℕ) (f : ℕ → ℕ) (c : Content) (t : ℕ) → (acts_number v f c r t).changed ≡ true → (acts_number v f c r t).register ≡ record { content = (acts_number v f c r t).register.content; tag = t }
takes_number r None f c t e = absurd (false≢true e)
takes_number r (Some v) f c t e = refl

pub takes_tag : (op : Op) (c : Option Content) (tag t : ℕ) → (act op (record { content = c; tag = tag }) t).changed ≡ true → (act op (record { content = c; tag = tag }) t).register ≡ record { content = (act op (record { content = c; tag = tag }) t).register.content; tag = t }
takes_tag Read None tag t e = absurd (false≢true e)
takes_tag (Write d) None tag t e = refl
takes_tag (Cas k d) None tag t e = absurd (false≢true e)
takes_tag (Incr n) None tag t e = absurd (false≢true e)
takes_tag (Decr n) None tag t e = absurd (false≢true e)
takes_tag (Add d) None tag t e = refl
takes_tag (Replace d) None tag t e = absurd (false≢true e)
takes_tag Delete None tag t e = absurd (false≢true e)
takes_tag Read (Some h) tag t e = absurd (false≢true e)
takes_tag (Write d) (Some h) tag t e = refl
takes_tag (Cas k d) (Some h) tag t e = takes_if (record { content = Some h; tag = tag }) (eqb k tag) d t e
takes_tag (Incr n) (Some h) tag t e = takes_number (record { content = Some h; tag = tag }) (number_in h.bytes) _ h t e
takes_tag (Decr n) (Some h) tag t e = takes_number (record { content = Some h; tag = tag }) (number_in h.bytes) _ h t e
takes_tag (Add d) (Some h) tag t e = absurd (false≢true e)
takes_tag (Replace d) (Some h) tag t e = refl
takes_tag Delete (Some h) tag t e = refl

-- ---- only a write is begun as a plain one, and a write looks at nothing
write_does : (d : Content) (c : Option Content) (tag t : ℕ) → act (Write d) (record { content = c; tag = tag }) t ≡ changes Stored d t
write_does d None tag t = refl
write_does d (Some h) tag t = refl

pub plain_is_blind : (op : Op) → kind_of op ≡ Kind.Write → IsBlind op
plain_is_blind (Write d) e = λ r other t. write_does d r.content r.tag t ∙ sym (write_does d other.content other.tag t)
plain_is_blind Read e = cc
plain_is_blind (Cas k d) e = cc
plain_is_blind (Incr n) e = cc
plain_is_blind (Decr n) e = cc
plain_is_blind (Add d) e = cc
plain_is_blind (Replace d) e = cc
plain_is_blind Delete e = cc
