-- Primitives of `Transcript`.
use Rattle.std.proofs.Common.{◌≡◌, true, refl, true≢false}
use Rattle.run_model.specs.Values.{Value, nil_value, true_value, false_value, int_value, char_value, string_value, symbol_value, class_value, object_value, array_value, closure_value, transcript_value}
use Rattle.run_model.specs.Calls.{Call, PrimResult, demands, as_transcript}
use Rattle.prim_calls.specs.Calls.{is_transcript}

pub transcript : (c : Call) (r : PrimResult) → true ≡ is_transcript c.receiver → r ≡ demands c (as_transcript c.receiver) (λ w. r)
transcript c r e = by c.receiver e
  where
    by : (v : Value) → true ≡ is_transcript v → r ≡ demands c (as_transcript v) (λ w. r)
    by nil_value q = absurd (true≢false q)
    by true_value q = absurd (true≢false q)
    by false_value q = absurd (true≢false q)
    by (int_value z) q = absurd (true≢false q)
    by (char_value b) q = absurd (true≢false q)
    by (string_value t) q = absurd (true≢false q)
    by (symbol_value t) q = absurd (true≢false q)
    by (class_value n) q = absurd (true≢false q)
    by (object_value k) q = absurd (true≢false q)
    by (array_value k) q = absurd (true≢false q)
    by (closure_value k) q = absurd (true≢false q)
    by transcript_value q = refl
