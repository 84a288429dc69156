-- A run of three managers and two founders: a majority grants the second a lease, it is dropped, and the first installs the view
-- without it.
use Rattle.std.specs.Prelude.{◌≡◌, ℕ, List, [], ◌∷◌, nat_le, if◌then◌else◌}
use Rattle.hk_base.specs.declared.stamp.NodeId.{NodeId}
use Rattle.hk_base.specs.declared.view.View.{View}
use Rattle.hk_clocks.specs.Steps.ClockEvent.{TickAll}
use Rattle.hk_earned.specs.Machine.{Setting, State, Event, In, IsMajority, IsRun, granted_by, last_state, start}
use Rattle.hk_earned.specs.Machine.Event.{Clock, Learn, AskLease, TakeAsk, TakeGive, SendActivate, TakeActivate, Install}
use Rattle.hk_earned.specs.Earned.{IsLeftOut, NeverReturns}

abbrev pub first_node : NodeId
first_node = record { 0 = 0 }

abbrev pub second_node : NodeId
second_node = record { 0 = 1 }

-- both are members up to epoch 1, and the first alone from then on
abbrev pub views : ℕ → View
views epoch =
    if nat_le epoch 1 then record { epoch = epoch; members = first_node ∷ second_node ∷ []; next = 2 }
    else record { epoch = epoch; members = first_node ∷ []; next = 2 }

abbrev pub setting : Setting
setting = record { views = views; managers = 1; lease = 10; skew = 0; founders = 2 }

abbrev pub of_three : Setting
of_three = record setting { managers = 3 }

-- Asked at 1, the lease ends at 11 on the node's clock, by managers 0 and 1; their untils are 12. Managers 1 and 2 learn of the view
-- that leaves the node out, and let it begin at 13.
abbrev pub events : List Event
events =
    AskLease second_node 0 ∷ AskLease second_node 1 ∷
    TakeAsk (record { node = second_node; manager = 0; asked = 1 }) ∷ TakeAsk (record { node = second_node; manager = 1; asked = 1 }) ∷
    TakeGive (record { manager = 0; node = second_node; end = 11 }) ∷ TakeGive (record { manager = 1; node = second_node; end = 11 }) ∷
    Learn 1 2 ∷ Learn 2 2 ∷ Clock (TickAll 13) ∷ SendActivate 1 ∷ SendActivate 2 ∷
    TakeActivate first_node (record { manager = 1; epoch = 2 }) ∷ TakeActivate first_node (record { manager = 2; epoch = 2 }) ∷ Install first_node ∷ []

abbrev pub last : State
last = last_state of_three (start of_three) events

-- It is a run, at whose end the view of epoch 2 is installed and leaves out the second node, which is live and had a lease up to 11 by a
-- majority's grants, longer than the first.
pub record WorkedRun : Type 0 where
  pub runs : IsRun of_three (start of_three) events
  pub stays : NeverReturns of_three
  pub installed : In last.installed 2
  pub left_out : IsLeftOut of_three last.clocks 2 second_node
  pub granted : last.granted second_node ≡ 11
  pub by_majority : IsMajority 3 (λ m. nat_le 11 (granted_by of_three.lease of_three.founders last.gives m second_node))
