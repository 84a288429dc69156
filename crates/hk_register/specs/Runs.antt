-- Runs of one key: a start state and a list of effects, each with the state that it leads to.
use Rattle.std.specs.Prelude.{None, ◌≡◌, ℕ, Bool, true, false, List, [], ◌∷◌, ◌++◌, map, if◌then◌else◌, ◌==◌, ⊤}
use Rattle.hk_base.specs.declared.stamp.Kind.TheVariants as Kind
use Rattle.hk_register.specs.Machine.{Node, RegisterState}
use Rattle.hk_register.specs.Machine.Phase.{Valid}
use Rattle.hk_register.specs.Effects.{Effect, Done, Happens, Allowed, done, row_mark}

abbrev pub is_in : ℕ → List ℕ → Bool
is_in n [] = false
is_in n (m ∷ ms) = if n == m then true else is_in n ms

-- A founder is in the first view, and ready. Each other node has no view.
abbrev pub founder : Node
founder = record { epoch = 1; ready = true; copied = true; phase = Valid; stamp = 0; kind = Kind.Write; content = None; kept_val = false }

abbrev pub absent : Node
absent = record { epoch = 0; ready = false; copied = false; phase = Valid; stamp = 0; kind = Kind.Write; content = None; kept_val = false }

-- V e are the members of the view of epoch e; those of view 1 are the founders
abbrev pub start : (ℕ → List ℕ) → RegisterState
start V = record {
  node = λ n. if is_in n (V 1) then founder else absent;
  letters = [];
  marks = map (λ n. row_mark n founder) (V 1);
  begun = [];
  history = [];
}

pub record Step : Type 0 where
  pub effect : Effect
  pub state : RegisterState

abbrev pub last : RegisterState → List Step → RegisterState
last st [] = st
last st (s ∷ rest) = last s.state rest

-- each effect happens, and leads from the state before it to its own
abbrev pub Run : (ℕ → List ℕ) → RegisterState → List Step → Type 0
Run V st [] = ⊤
Run V st (s ∷ rest) = Happens V st s.effect s.state × Run V s.state rest

-- a state that some run comes to
pub record Reached (V : ℕ → List ℕ) (st : RegisterState) : Type 0 where
  pub run : List Step
  pub runs : Run V (start V) run
  pub at : st ≡ last (start V) run

-- Runs that are computed: the state after an effect is that in which all letters and marks are kept.
abbrev pub after : RegisterState → Effect → RegisterState
after st e = adds st (done st e)
  where
    adds : RegisterState → Done → RegisterState
    adds st d = record {
      node = λ m. if m == d.actor then d.node else st.node m;
      letters = d.letters ++ st.letters;
      marks = d.marks ++ st.marks;
      begun = d.updates ++ st.begun;
      history = d.items ++ st.history;
    }

abbrev pub played : RegisterState → List Effect → RegisterState
played st [] = st
played st (e ∷ es) = played (after st e) es

-- each effect is allowed where it stands
abbrev pub Plays : (ℕ → List ℕ) → RegisterState → List Effect → Type 0
Plays V st [] = ⊤
Plays V st (e ∷ es) = Allowed V st e × Plays V (after st e) es
