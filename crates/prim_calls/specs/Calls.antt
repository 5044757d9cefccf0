-- The call of runs for which a call of the program stands.
use Rattle.std.specs.Prelude.{ℕ, List, Bool, true, false}
use Rattle.image_model.specs.Image.{ClassOf}
use Rattle.run_model.specs.Values.{Name, Value, transcript_value}
use Rattle.run_model.specs.Calls as run
use Rattle.run_model.specs.Calls.{Sequence, of_bytes, of_values}
use Rattle.prim_calls.specs.declared.call.Call.{Call}
use Rattle.prim_calls.specs.declared.kinds.Items.{Items}
use Rattle.prim_calls.specs.declared.kinds.Items.TheVariants as items

-- what primitives see beside the heap: how many parameters each closure has, and the classes of the image
pub record World : Type 0 where
  pub arity : ℕ → ℕ
  pub classes : List (ClassOf Name)

-- the call of runs
abbrev pub call_of : World → Call → run.Call
call_of w c = record {
  number = c.number;
  receiver = c.receiver.now;
  arguments = c.arguments.now;
  heap = c.heap.now;
  arity = w.arity;
  classes = w.classes;
}

-- the sequence of runs
abbrev pub sequence_of : Items → Sequence
sequence_of (items.Bytes t) = of_bytes t.now
sequence_of (items.Values vs) = of_values vs.now

-- whether a value is `Transcript`
abbrev pub is_transcript : Value → Bool
is_transcript transcript_value = true
is_transcript v = false
