-- Methods in slots.
use Rattle.std.specs.Prelude.{◌≡◌, ℕ, List}
use Rattle.st_tree.specs.View.{method_of}
use Rattle.image_model.specs.Image.{EntryOf}
use Rattle.class_table.specs.declared.record.ClassRec.{ClassRec}
use Rattle.class_table.specs.Slots.{Slots}
use Rattle.class_table.specs.Valid.{IsLive}
use Rattle.class_table.specs.View.{class_name}
use Rattle.part_questions.specs.declared.code.MethodCode.{MethodCode}
use Rattle.refusal_witnesses.specs.Witnesses.{InMethod}
use Rattle.witness_lists.specs.declared.witness.Owner.TheVariants as owner
use Rattle.witness_lists.specs.Views.{owner_of}
use Rattle.part_witnesses.specs.declared.held.Held.{Held}

-- the method, as the image has it
abbrev pub held_as : List ClassRec → Held → EntryOf ℕ
held_as classes m = record {
  class = class_name classes m.info.class;
  meta = m.info.meta;
  protocol = m.info.protocol.now;
  source = m.info.source.now;
  tree = method_of m.tree.now;
  kernel = m.info.kernel;
}

-- its code
abbrev pub code_in : Held → MethodCode
code_in m = record { class = m.info.class; meta = m.info.meta; tree = m.tree }

-- its slot holds it, and its class is live
pub record IsHeld (s : Slots) (m : Held) : Type 0 where
  pub owner : owner_of s (owner.Method m.slot) ≡ InMethod (held_as s.classes m)
  pub live : IsLive s.class_order m.info.class
