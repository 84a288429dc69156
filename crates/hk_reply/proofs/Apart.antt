-- That the texts of replies stand apart, and what they tell.
use Rattle.std.proofs.Common.{◌≡◌, List, [], ◌∷◌, ◌++◌, true, false, refl, ap, ◌∙◌, sym, arith, append-nil}
use Rattle.std.specs.Prelude.{map, codes}
use Rattle.std.specs.List.{AllByRecursion}
use Rattle.hk_reply.specs.declared.reply.Item.{Item}
use Rattle.hk_reply.specs.declared.reply.Reply.TheVariants.{Values, Stored, Exists, NotFound, NotStored, Deleted, Number, Error, ClientError, ServerError, Version}
use Rattle.hk_reply.specs.Reading.{reply_at}
use Rattle.hk_reply.specs.Texts.{text_of, values_text, value_text, head_text}
use Rattle.hk_reply.specs.Replies.{IsPlainItem, untagged}
use Rattle.hk_reply.specs.Laws.{NoneBegins, TextsTell}
use Rattle.hk_reply.proofs.Simple.{both_are}
use Rattle.hk_reply.proofs.Told.{read_as}

pub none_begins : NoneBegins
none_begins r s more p q e = both_are (reply_at (text_of r ++ more)) r s more [] (read_as (text_of r ++ more) more r p refl) (read_as (text_of r ++ more) [] s q (e ∙ sym (append-nil (text_of s))))

value_untagged : (i : Item) → value_text false (untagged i) ≡ value_text false i
unfolding head_text
value_untagged i = refl

values_untagged : (is : List Item) → values_text false (map untagged is) ≡ values_text false is
values_untagged [] = refl
values_untagged (i ∷ is) = ap (λ z. z ++ values_text false (map untagged is)) (value_untagged i) ∙ ap (λ z. value_text false i ++ z) (values_untagged is)

plain_untagged : (i : Item) → IsPlainItem true i → IsPlainItem false (untagged i)
plain_untagged i p = record { key = p.key; flags = p.flags; bytes = p.bytes; tag = omega arith; untold = λ e. refl }

all_untagged : (is : List Item) → AllByRecursion (IsPlainItem true) is → AllByRecursion (IsPlainItem false) (map untagged is)
all_untagged [] p = tt
all_untagged (i ∷ is) p = (plain_untagged i p.0, all_untagged is p.1)

pub texts_tell : TextsTell
unfolding text_of
texts_tell (Values [] tags) p = (refl, refl)
texts_tell (Values (i ∷ is) true) p = (p, refl)
texts_tell (Values (i ∷ is) false) p = (all_untagged (i ∷ is) p, ap (λ z. z ++ codes "END\r\n") (values_untagged (i ∷ is)))
texts_tell (Number n) p = (p, refl)
texts_tell (ClientError t) p = (tt, refl)
texts_tell (ServerError t) p = (tt, refl)
texts_tell Stored p = (tt, refl)
texts_tell Exists p = (tt, refl)
texts_tell NotFound p = (tt, refl)
texts_tell NotStored p = (tt, refl)
texts_tell Deleted p = (tt, refl)
texts_tell Error p = (tt, refl)
texts_tell Version p = (tt, refl)
