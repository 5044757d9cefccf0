-- How two or more neighbouring statements are found from their span.
use Rattle.std.specs.Prelude.{ℕ, zero, suc, ◌+◌, if◌then◌else◌, ◌==◌, List, [], ◌∷◌, Option, Some, None, option_map}
use Rattle.rb_base.specs.declared.text.Span.{Span}
use Rattle.event_spans.specs.declared.place.Place.{Place}
use Rattle.event_spans.specs.declared.runs.Run.{Run}

-- the outermost nodes behind so many nodes
abbrev pub roots : ℕ → List Place → List Place
roots n [] = []
roots zero (p ∷ ps) = p ∷ roots p.below ps
roots (suc n) (p ∷ ps) = roots n ps

-- the number of the first node that ends at a place, counted on from n
abbrev pub ending : ℕ → ℕ → List Place → Option ℕ
ending n to [] = None
ending n to (p ∷ ps) = if p.to == to then Some n else ending (n + 1) to ps

-- the first node that begins where the span begins, and the first one behind it that ends where the span ends
abbrev pub run_of : ℕ → Span → List Place → Option Run
run_of n span [] = None
run_of n span (p ∷ ps) = if p.from == span.from then option_map (λ count. record { first = n; count = count }) (ending 2 span.to ps) else run_of (n + 1) span ps
