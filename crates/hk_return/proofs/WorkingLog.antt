-- The worked run of a log is what it is said to be.
use Rattle.std.proofs.Common.{List, None, ◌∷◌, [], refl, inl, inr, arith}
use Rattle.hk_base.specs.declared.letter.Letter.{Letter}
use Rattle.hk_base.specs.declared.letter.Body.TheVariants as Body
use Rattle.hk_base.specs.declared.view.Change.TheVariants.{Drop}
use Rattle.hk_earned.specs.Worked.{second_node}
use Rattle.hk_paxos.specs.Run.{In}
use Rattle.hk_manager.specs.declared.event.ManagerEvent.{ManagerEvent}
use Rattle.hk_manager.specs.declared.event.ManagerEvent.TheVariants.{Receive, Propose, Activate, Tick}
use Rattle.hk_return.specs.Group.{WentOut}
use Rattle.hk_return.specs.WorkedLog.{ballot, dropped, to_itself, WorkedLog}

-- the only step of a batch
only : (sent : List Letter) (step : ManagerEvent) → WentOut sent step → (event : ManagerEvent) → In (step ∷ []) event → WentOut sent event
only sent step was event (inl e) = rw e was
only sent step was event (inr i) = absurd i

pair : (sent : List Letter) (step then : ManagerEvent) → WentOut sent step → WentOut sent then → (event : ManagerEvent) → In (step ∷ then ∷ []) event → WentOut sent event
pair sent step then was after event (inl e) = rw e was
pair sent step then was after event (inr i) = only sent then after event i

abbrev prepare : Letter
prepare = to_itself (Body.Prepare ballot)

abbrev promise : Letter
promise = to_itself (Body.Promise ballot None)

abbrev accept : Letter
accept = to_itself (Body.Accept ballot dropped)

abbrev accepted : Letter
accepted = to_itself (Body.Accepted ballot)

-- each letter is the last one that went out when it is taken
first : (event : ManagerEvent) → In (Receive prepare ∷ []) event → WentOut (prepare ∷ []) event
first = only (prepare ∷ []) (Receive prepare) (inl refl)

second : (event : ManagerEvent) → In (Receive promise ∷ []) event → WentOut (prepare ∷ promise ∷ []) event
second = only (prepare ∷ promise ∷ []) (Receive promise) (inr (inl refl))

third : (event : ManagerEvent) → In (Receive accept ∷ []) event → WentOut (prepare ∷ promise ∷ accept ∷ []) event
third = only (prepare ∷ promise ∷ accept ∷ []) (Receive accept) (inr (inr (inl refl)))

fourth : (event : ManagerEvent) → In (Receive accepted ∷ []) event → WentOut (prepare ∷ promise ∷ accept ∷ accepted ∷ []) event
fourth = only (prepare ∷ promise ∷ accept ∷ accepted ∷ []) (Receive accepted) (inr (inr (inr (inl refl))))

pub worked_log : WorkedLog
worked_log = record {
  runs = ((omega arith, (tt, tt), only [] (Propose 1 (Drop second_node)) tt), ((omega arith, tt, tt), ((omega arith, inl refl, tt), ((omega arith, (tt, tt), first), ((omega arith, tt, tt), ((omega arith, (tt, tt), first), ((omega arith, tt, tt), ((omega arith, inl refl, tt), ((omega arith, (tt, tt), second), ((omega arith, tt, tt), ((omega arith, inr (inl refl), tt), ((omega arith, (tt, tt), third), ((omega arith, tt, tt), ((omega arith, inr (inr (inl refl)), tt), ((omega arith, (tt, tt), fourth), ((omega arith, (tt, (tt, tt)), pair (prepare ∷ promise ∷ accept ∷ accepted ∷ []) (Tick 13) Activate tt tt), ((omega arith, tt, tt), ((omega arith, inr (inr (inr (inl refl))), tt), tt))))))))))))))))));
  lost = refl;
  clock = refl;
  noted = refl;
  holds = refl;
  waits = refl;
  begins = inr (inr (inr (inr (inl refl))));
}
