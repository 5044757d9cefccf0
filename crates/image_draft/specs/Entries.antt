-- The methods for which those of the program stand.
use Rattle.std.specs.Prelude.{ℕ, Some}
use Rattle.st_tree.specs.View.{method_of}
use Rattle.image_model.specs.Image.{EntryOf}
use Rattle.file_model.specs.Changes.{RunOf}
use Rattle.image_draft.specs.declared.method_draft.MethodDraft.{MethodDraft}

-- the method, over numbers of names
abbrev pub entry_of : MethodDraft → EntryOf ℕ
entry_of m = record { class = Some m.class; meta = m.meta; protocol = m.protocol; source = m.source; tree = method_of m.tree; kernel = m.kernel }

-- the run of methods in which a method would stand
abbrev pub run_of : MethodDraft → RunOf ℕ
run_of m = record { class = m.class; meta = m.meta; protocol = m.protocol }
