-- Traces: what an act does, with the ticks that it wants and the events that it tells in the order in which they come, however many ticks there are.
use Rattle.std.specs.Prelude.{ℕ, ◌-◌, nat_le, nat_eq, if◌then◌else◌, List, [], ◌∷◌, ◌++◌}
use Rattle.image_model.specs.Image.{ImageOf}
use Rattle.run_model.specs.Values.{Name, Value, Event, RunError}
use Rattle.run_model.specs.Store.{Memory, returns, ends_by, out_of_ticks, Result, fine, leaves, no_memory, without_home}
use Rattle.run_model.specs.Operations.{Operations}
use Rattle.run_model.specs.Runs.{does_all}

-- what is seen of a run while it goes on: so many ticks are wanted, or an event is told
pub data Step : Type 0 where
  wants : ℕ → Step
  told : Event → Step

-- how an act ends, with the memory then: with a thing, with a return to a home, with an error, or for want of depth
pub data End (A : Type 0) : Type 0 where
  gave : A → Memory → End A
  returned : (home : ℕ) → Value → Memory → End A
  failed_by : RunError → Memory → End A
  stopped : Memory → End A

-- the steps of an act and how it ends
pub record Trace (A : Type 0) : Type 0 where
  pub steps : List Step
  pub end : End A

-- the trace with further steps in front
abbrev pub behind : {A : Type 0} → List Step → Trace A → Trace A
behind ss t = record { steps = ss ++ t.steps; end = t.end }

-- the trace that goes on from an end, if that gave a thing
abbrev pub goes_on_from : {A B : Type 0} → List Step → End A → (A → Memory → Trace B) → Trace B
goes_on_from ss (gave a m) go = behind ss (go a m)
goes_on_from ss (returned h v m) go = record { steps = ss; end = returned h v m }
goes_on_from ss (failed_by e m) go = record { steps = ss; end = failed_by e m }
goes_on_from ss (stopped m) go = record { steps = ss; end = stopped m }

-- the end of a home, also by a return to it
abbrev pub end_of_home : ℕ → End Value → End Value
end_of_home h (gave v m) = gave v (without_home m h)
end_of_home h (returned k v m) = if nat_eq k h then gave v (without_home m h) else returned k v (without_home m h)
end_of_home h (failed_by e m) = failed_by e m
end_of_home h (stopped m) = stopped m

-- the operations of traces: each takes a memory
abbrev pub traces : Operations
traces = record {
  Act = λ A. Memory → Trace A;
  gives = λ a m. record { steps = []; end = gave a m };
  fails = λ e m. record { steps = []; end = failed_by e m };
  goes_home = λ h v m. record { steps = []; end = returned h v m };
  and_then = λ act go m. goes_on_from (act m).steps (act m).end go;
  with_memory = λ f m. record { steps = []; end = gave ((f m).0) ((f m).1) };
  tells = λ e a m. record { steps = told e ∷ []; end = gave a m };
  pays = λ n a m. record { steps = wants n ∷ []; end = gave a m };
  at_home = λ h act m. record { steps = (act m).steps; end = end_of_home h (act m).end };
  stops = λ m. record { steps = []; end = stopped m };
}

-- what an end comes to with so many ticks left and these events so far
abbrev pub ended_with : {A : Type 0} → ℕ → List Event → End A → Result A
ended_with n es (gave a m) = fine a (record { memory = m; events = es; ticks = n })
ended_with n es (returned h v m) = leaves (returns h v) (record { memory = m; events = es; ticks = n })
ended_with n es (failed_by e m) = leaves (ends_by e) (record { memory = m; events = es; ticks = n })
ended_with n es (stopped m) = leaves out_of_ticks (record { memory = m; events = es; ticks = n })

-- What steps and an end come to with so many ticks: where a step wants more than are left, it ends there without ticks, and the memory is no longer looked at.
abbrev pub cut_at : {A : Type 0} → ℕ → List Event → List Step → End A → Result A
cut_at n es [] e = ended_with n es e
cut_at n es (told x ∷ ss) e = cut_at n (es ++ x ∷ []) ss e
cut_at n es (wants k ∷ ss) e =
    if nat_le k n then cut_at (n - k) es ss e else leaves out_of_ticks (record { memory = no_memory; events = es; ticks = 0 })

-- the same of a trace
abbrev pub cut : {A : Type 0} → ℕ → List Event → Trace A → Result A
cut n es t = cut_at n es t.steps t.end

-- the trace of all do-its of an image with so much depth
abbrev pub trace_of : ImageOf Name → ℕ → Trace Value
trace_of i d = does_all traces i d no_memory
