-- What a worker of a network keeps between its moves.
use Rattle.std.specs.Prelude.{ℕ, List}
use Rattle.xt_state.specs.State.{State}

-- a processor's state; how many items a source has pushed; the values that a collector has collected
pub data Place : Type 0 where
  CoreAt : State → Place
  SourceAt : ℕ → Place
  CollectorAt : List ℕ → Place

-- f of what is kept of that kind of worker, something else for another kind
abbrev pub of_core : {X : Type 0} → X → (State → X) → Place → X
of_core other f (CoreAt s) = f s
of_core other f (SourceAt n) = other
of_core other f (CollectorAt vs) = other

abbrev pub of_source : {X : Type 0} → X → (ℕ → X) → Place → X
of_source other f (CoreAt s) = other
of_source other f (SourceAt n) = f n
of_source other f (CollectorAt vs) = other

abbrev pub of_collector : {X : Type 0} → X → (List ℕ → X) → Place → X
of_collector other f (CoreAt s) = other
of_collector other f (SourceAt n) = other
of_collector other f (CollectorAt vs) = f vs
