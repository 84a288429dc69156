-- A copied row of a key is told by a batch that covers it.
use Rattle.std.proofs.Common.{◌≡◌, ℕ, Bool, true, false, cond, List, [], ◌∷◌, refl, inl, inr, ⊎_elim, Option}
use Rattle.hk_base.specs.declared.call.Content.{Content}
use Rattle.hk_base.specs.declared.stamp.Kind.{Kind}
use Rattle.hk_base.specs.declared.letter.Body.{Body}
use Rattle.hk_base.specs.declared.letter.Body.TheVariants as Body
use Rattle.hk_base.specs.declared.letter.CopyItem.{CopyItem}
use Rattle.hk_base.specs.declared.letter.Letter.{Letter}
use Rattle.hk_base.specs.Stamp.{tag_of}
use Rattle.hk_register.specs.Machine.{In, Message}
use Rattle.hk_register.specs.Machine.Message.{Inv, Ack, Val, Give}
use Rattle.hk_register.proofs.Grow.{in_either}
use Rattle.hk_effects.specs.Projection.{number_of, letter_of, letters_of, item_at, covers, is_same_key}

-- the letter of a copied row is a batch's
pub record Given (key : List ℕ) (l : Letter) (b : Body) (m f s : ℕ) : Type 0 where
  pub after : Option (List ℕ)
  pub done : Bool
  pub items : List CopyItem
  pub body : b ≡ Body.CopyGive after done items
  pub covered : covers key after done items ≡ true
  pub who : m ≡ number_of l.from
  pub epoch : f ≡ l.epoch
  pub stamp : s ≡ tag_of (item_at key items).stamp

module _ (key : List ℕ) (l : Letter) (m f s : ℕ) (kind : Kind) (content : Option Content) (valid : Bool) where
  no_other : (b : Bool) (x : Message) → (Give m f s kind content valid ≡ x → ⊥) → In (cond b (x ∷ []) []) (Give m f s kind content valid) → ⊥
  no_other true x no_give (inl e) = no_give e
  no_other true x no_give (inr none) = none
  no_other false x no_give none = none

  pub given_of : (b : Body) → In (letter_of key l b) (Give m f s kind content valid) → Given key l b m f s
  given_of (Body.Inv k c kd ct) h = absurd (no_other (is_same_key key k) (Inv (number_of l.from) l.epoch (tag_of c) kd ct) (λ e. cc) h)
  given_of (Body.Ack k c top) h = absurd (no_other (is_same_key key k) (Ack (number_of l.from) l.epoch (tag_of c) (tag_of top)) (λ e. cc) h)
  given_of (Body.Val k c) h = absurd (no_other (is_same_key key k) (Val (number_of l.from) l.epoch (tag_of c)) (λ e. cc) h)
  given_of (Body.CopyGive after done items) h = by_cover (covers key after done items) refl h
    where
      the_give : (n e c : ℕ) (kd : Kind) (ct : Option Content) (v : Bool) → Give m f s kind content valid ≡ Give n e c kd ct v → (m ≡ n) × (f ≡ e) × (s ≡ c)
      the_give n e c kd ct v is =
          let one : m ≡ n = cc in
          let two : f ≡ e = cc in
          let three : s ≡ c = cc in
          (one, two, three)

      by_cover : (b : Bool) → covers key after done items ≡ b →
          In (cond b (Give (number_of l.from) l.epoch (tag_of (item_at key items).stamp) (item_at key items).kind (item_at key items).content (item_at key items).valid ∷ []) []) (Give m f s kind content valid) → Given key l (Body.CopyGive after done items) m f s
      by_cover true e (inl is) = let g = the_give _ _ _ _ _ _ is in record { after = after; done = done; items = items; body = refl; covered = e; who = g.0; epoch = g.1; stamp = g.2 }
      by_cover true e (inr none) = absurd none
      by_cover false e none = absurd none
  given_of (Body.CopyAsk after room) h = absurd h
  given_of (Body.LeaseAsk asked) h = absurd h
  given_of (Body.LeaseGive end) h = absurd h
  given_of (Body.Prepare ballot) h = absurd h
  given_of (Body.Promise ballot vote) h = absurd h
  given_of (Body.Accept ballot v) h = absurd h
  given_of (Body.Accepted ballot) h = absurd h
  given_of (Body.Chosen v) h = absurd h
  given_of (Body.Activate v) h = absurd h

-- a letter of the key is that of a letter that was sent
pub wire_of : (key : List ℕ) (ls : List Letter) (g : Message) → In (letters_of key ls) g → (l : Letter) × In ls l × In (letter_of key l l.body) g
wire_of key [] g h = absurd h
wire_of key (l ∷ ls) g h = ⊎_elim
    (λ (a : In (letter_of key l l.body) g). (l, inl refl, a))
    (λ (b : In (letters_of key ls) g). let r = wire_of key ls g b in (r.0, inr r.1, r.2)) (in_either (letter_of key l l.body) (letters_of key ls) g h)
