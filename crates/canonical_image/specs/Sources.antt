-- Slots with canonical sources.
use Rattle.std.specs.Prelude.{ℕ, zero, suc, ◌<◌, List, [], ◌∷◌, length, take, Bool, false, not, if◌then◌else◌, Option}
use Rattle.std.specs.Option.{option_map_or}
use Rattle.rb_base.specs.Names.{name_at}
use Rattle.tree_model.specs.Tree.{map_sequence, map_method}
use Rattle.tree_model.specs.AllNames.{SequenceNames, MethodNames}
use Rattle.st_tree.specs.View.{sequence_of, method_of}
use Rattle.text_model.specs.Whole.{canonical_method, canonical_doit}
use Rattle.class_table.specs.declared.record.MethodRec.{MethodRec}
use Rattle.class_table.specs.declared.record.DoIt.{DoIt}
use Rattle.class_table.specs.Slots.{Slots}
use Rattle.class_table.specs.Changing.{changed_at}

-- the canonical text of a method of the program
abbrev pub method_text : List (List ℕ) → MethodRec → List ℕ
method_text names m = canonical_method (map_method (name_at names) (method_of m.tree))

-- the canonical text of a do-it of the program
abbrev pub doit_text : List (List ℕ) → DoIt → List ℕ
doit_text names d = canonical_doit (map_sequence (name_at names) (sequence_of d.body))

-- the record of a method with its canonical text as source, if it is one of the user
abbrev pub canonical_rec : List (List ℕ) → MethodRec → MethodRec
canonical_rec names m = record m { source = if m.kernel then m.source else method_text names m }

-- the record of a do-it with its canonical text as source
abbrev pub canonical_doit_rec : List (List ℕ) → DoIt → DoIt
canonical_doit_rec names d = record d { source = doit_text names d }

-- the slots of methods with those of an order changed, one after the other
abbrev pub all_changed : (MethodRec → MethodRec) → List MethodRec → List ℕ → List MethodRec
all_changed f xs [] = xs
all_changed f xs (k ∷ ks) = all_changed f (changed_at f xs k) ks

-- the do-its with the first ones changed
abbrev pub first_changed : (DoIt → DoIt) → ℕ → List DoIt → List DoIt
first_changed f zero xs = xs
first_changed f (suc n) [] = []
first_changed f (suc n) (x ∷ xs) = f x ∷ first_changed f n xs

-- the slots with the first live methods, so many, and the first do-its changed
abbrev pub formatted_to : Slots → (methods doits : ℕ) → Slots
formatted_to s p n = record s { methods = all_changed (canonical_rec s.names) s.methods (take p s.method_order); doits = first_changed (canonical_doit_rec s.names) n s.doits }

-- whether there is a method, and it is one of the user
abbrev pub is_user : Option MethodRec → Bool
is_user o = option_map_or (λ (m : MethodRec). not m.kernel) o false

-- each name in a method has a text
abbrev pub KnowsMethod : List (List ℕ) → MethodRec → Type 0
KnowsMethod names m = MethodNames (λ n. n < length names) (method_of m.tree)

-- each name in a do-it has a text
abbrev pub KnowsDoIt : List (List ℕ) → DoIt → Type 0
KnowsDoIt names d = SequenceNames (λ n. n < length names) (sequence_of d.body)
