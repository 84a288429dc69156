-- The part on updates holds after every run.
use Rattle.std.proofs.Common.{◌≡◌, ℕ, List, sym, subst, inl, inr, ⊎_elim, None}
use Rattle.hk_base.specs.declared.stamp.Stamp.{Stamp}
use Rattle.hk_base.specs.declared.letter.Body.{Body}
use Rattle.hk_base.specs.declared.letter.Body.TheVariants as Body
use Rattle.hk_base.specs.declared.letter.Letter.{Letter}
use Rattle.hk_register.specs.Machine.{In, Message}
use Rattle.hk_register.specs.Machine.Message.{Inv, Ack, Val, Give}
use Rattle.hk_register.specs.Facts.{Covers}
use Rattle.hk_register.specs.Parts.{Known, LetterOk}
use Rattle.hk_register.proofs.Helps.{pending_of}
use Rattle.hk_register.proofs.Orders.{base_not_below}
use Rattle.hk_effects.specs.Projection.{Trace, project}
use Rattle.hk_world.specs.Sound.{IsHeader}
use Rattle.hk_effects.specs.Runs.{IsKept, RunsKeepParts}
use Rattle.hk_parts.specs.Moments.{Run, Ends, Moment}
use Rattle.hk_parts.specs.Facts.{members_at, IsSettled}
use Rattle.hk_parts.specs.UpdatePart.{LetterBegun, LetterTells, AckSent, UpdatePart}
use Rattle.hk_parts.specs.ViewPart.{IsOfReplicas}
use Rattle.hk_parts.proofs.Moments.{moment_marks_kept}
use Rattle.hk_parts.proofs.Origins.{parts_at, known_begun, holds_begun, covers_begun, exact_begun, settled_begun, not_below, row_shape, other_noted, risen}
use Rattle.hk_parts.proofs.Acks.{AcksTold}
use Rattle.hk_parts.proofs.Begins.{begun_at}
use Rattle.hk_parts.proofs.LettersTell.{BodyTells}
use Rattle.hk_parts.proofs.Sending.{Told, letters_told}
use Rattle.hk_parts.proofs.Acked.{acks_told, zero_settled}

module _ (runs : RunsKeepParts) (key : List ℕ) (run : Run) (header : IsHeader run.header) (t : Trace) (ends : Ends key run t) where
  pub kept_here : IsKept key t
  kept_here = runs run.header header key run.events t ends

  pub kept_then : (p : Trace) → Moment key run p → IsKept key p
  kept_then p m = runs run.header header key m.past p m.follows

  acks : AcksTold (project key t)
  acks = acks_told runs key run.header header run.events t ends

  letter_begun : (l : Message) → In (project key t).letters l → LetterOk (members_at t) (project key t) l → LetterBegun key t l
  letter_begun (Inv m e s kind content) h o = inr (known_begun key t kept_here s kind content o.1)
  letter_begun (Ack m e s top) h o = (covers_begun key t kept_here m e s o.0, exact_begun key t kept_here m e top (acks m e s top h).exact)
  letter_begun (Val m e s) h o = settled_begun key t kept_here s o
  letter_begun (Give m e s kind content valid) h o = ⊎_elim (λ (z : (s ≡ 0) × (content ≡ None)). inl z.0) (λ (c : Covers (project key t) m e s × Known (project key t) s kind content). inr (known_begun key t kept_here s kind content c.1)) o.0

  letter_tells : (l : Message) → In (project key t).letters l → LetterOk (members_at t) (project key t) l → LetterTells key t l
  letter_tells (Inv m e s kind content) h o = o.0
  letter_tells (Ack m e s top) h o = (o.0, (acks m e s top h).exact)
  letter_tells (Val m e s) h o = o
  letter_tells (Give m e s kind content valid) h o = tt

  ack_sent : (l : Letter) (s top : Stamp) → l.body ≡ Body.Ack key s top → Told key run l → AckSent key run l top
  ack_sent l s top is o = record { sent = o.sent; row = subst (λ (b : Body). BodyTells o.sent.node b) is o.says.tells }

  pub update_part : UpdatePart key run t
  update_part =
      let parts = parts_at key t kept_here in
      record {
        origin = record {
          row = λ n. holds_begun key t kept_here ((project key t).node n).stamp ((project key t).node n).kind ((project key t).node n).content (parts.nodes n).known;
          pending = λ n p has. inr (known_begun key t kept_here p.stamp p.kind p.content (pending_of (members_at t) (project key t) n ((project key t).node n) ((project key t).node n).phase p has (parts.nodes n).phase).known);
          letter = λ l h. letter_begun l h (parts.letters l h);
        };
        begun = begun_at runs key run.header header run.events t ends;
        rows_rise = λ p m n. (risen key t kept_here p (kept_then p m) (moment_marks_kept key run p t m ends) n).0;
        rows_cover = λ n e s c. not_below key t kept_here n e s c;
        shape = λ n x at. row_shape key t kept_here n x at;
        letters_tell = λ l h. letter_tells l h (parts.letters l h);
        acks_tell = λ l h s top is. ack_sent l s top is (letters_told runs key run.header header run.events t ends l h (subst IsOfReplicas (sym is) tt));
        notes_tell = λ n p has k h.
            let o = (pending_of (members_at t) (project key t) n ((project key t).node n) ((project key t).node n).phase p has (parts.nodes n).phase).notes k h in
            record { member = o.member; other = other_noted key t kept_here n p has k h; covered = o.covers; exact = o.exact };
        valid_is_settled = λ n is. rw is at (parts.nodes n).phase;
        kept_is_settled = λ n is. ⊎_elim
            (λ (zero_is : ((project key t).node n).stamp ≡ 0). subst (IsSettled key t) (sym zero_is) (zero_settled runs key run.header header run.events t ends))
            (λ (s : IsSettled key t ((project key t).node n).stamp). s) ((parts.nodes n).kept is);
        bases = λ u begun s e n f settled c upto below. base_not_below (members_at t) (project key t) parts u begun s e n f settled c upto below;
        answered_is_complete = λ call s a h. (parts.items _ h).0;
      }
