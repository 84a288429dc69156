-- What holds of a connection between two turns. There is one proof at most that it does, so a connection can carry it.
use Rattle.std.proofs.Common.{◌≡◌, List, [], ◌∷◌, length, Option, None, Some, refl, sym, ap, ◌∙◌, arith}
use Rattle.std.proofs.Props.{props}
use Rattle.std.proofs.Math.Path.{path_j}
use Rattle.hk_conn.specs.declared.said.Said.{Said}
use Rattle.hk_conn.specs.declared.said.Stop.{Stop}
use Rattle.hk_conn.specs.declared.said.Stop.TheVariants as stop
use Rattle.hk_conn.specs.declared.exchange.Exchange.{Exchange}
use Rattle.hk_conn.specs.Serving.{Place}
use Rattle.hk_conn.specs.Exchange.{Stands, IsExchange}

-- a list is empty in one way, whatever its items are
none : {X : Type 0} (xs : List X) → length xs ≡ 0 → xs ≡ []
none [] e = refl
none (x ∷ xs) e = absurd (let never : ⊥ = omega arith in never)

nil_is : {X : Type 0} (xs : List X) (p : [] ≡ xs) → p ≡ sym (none xs (ap length (sym p)))
unfolding none
nil_is {X} xs p = path_j (λ (ys : List X) (q : [] ≡ ys). q ≡ sym (none ys (ap length (sym q)))) refl p

nil_prop : {X : Type 0} (xs : List X) → IsProp (xs ≡ [])
unfolding none
nil_prop [] p q = nil_is [] p ∙ sym (nil_is [] q)
nil_prop (x ∷ xs) p q = let l = ap length p in absurd (let never : ⊥ = omega arith in never)

Stands-prop : (s : Stop) (held : Option Said) (p : Place) → IsProp (Stands s held p)
Stands-prop stop.Need None p = hlevel props
Stands-prop stop.Full None p = hlevel props
Stands-prop stop.Quit None p = hlevel props
Stands-prop stop.TooLong None p = hlevel props
Stands-prop stop.Need (Some held) p = hlevel props
Stands-prop stop.Full (Some held) p = hlevel props
Stands-prop stop.Quit (Some held) p = hlevel props
Stands-prop stop.TooLong (Some held) p = hlevel props

pub IsExchange-prop : {W : Type 0} (e : Exchange W) → IsProp (IsExchange e)
IsExchange-prop e = hlevel (props, Stands-prop, nil_prop)
