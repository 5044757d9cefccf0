-- The method or do-it of an owner, and what is told of it.
use Rattle.std.specs.Prelude.{◌≡◌, ℕ, ◌+◌, List, ◌++◌, Bool, true, false, not, Some, slice_get, codes}
use Rattle.std.specs.Fmt.{decimal}
use Rattle.grammar_model.specs.Spans.{Span}
use Rattle.command_model.specs.Parts.{Part}
use Rattle.command_model.specs.PartsOfText.{span_of_part}
use Rattle.class_table.specs.declared.record.ClassRec.{ClassRec}
use Rattle.class_table.specs.declared.record.MethodRec.{MethodRec}
use Rattle.class_table.specs.declared.record.DoIt.{DoIt}
use Rattle.class_table.specs.Info.{TellsOf}
use Rattle.class_table.specs.Slots.{Slots}
use Rattle.class_table.specs.View.{live_at}
use Rattle.st_spans.specs.Trees.{OfMethod, OfDoIt}
use Rattle.image_queries.specs.Parts.{title_of}
use Rattle.witness_lists.specs.declared.witness.Owner.{Owner}
use Rattle.witness_lists.specs.declared.witness.Owner.TheVariants as owner
use Rattle.witness_texts.specs.declared.code.Code.{Code}
use Rattle.witness_texts.specs.declared.code.Code.TheVariants as code

-- the code is the method in a live slot
abbrev pub IsTold : Slots → ℕ → Code → Type 0
IsTold s k (code.Method info) = (m : MethodRec) × (live_at s.methods s.method_order k ≡ Some m) × TellsOf info m
IsTold s k (code.DoIt number source) = ⊥

-- the code is that of an owner
abbrev pub IsCodeOf : Slots → Owner → Code → Type 0
IsCodeOf s (owner.Method k) c = IsTold s k c
IsCodeOf s (owner.Numbered n) c = (k : ℕ) × (slice_get s.method_order n ≡ Some k) × IsTold s k c
IsCodeOf s (owner.DoIt n) (code.Method info) = ⊥
IsCodeOf s (owner.DoIt n) (code.DoIt number source) = (number ≡ n) × ((d : DoIt) × (slice_get s.doits n ≡ Some d) × (source.now ≡ d.source))

-- its title
abbrev pub code_title : List (List ℕ) → List ClassRec → Code → List ℕ
code_title names classes (code.Method info) = title_of names classes info.class info.meta info.selector
code_title names classes (code.DoIt number source) = codes "doit " ++ decimal (number + 1)

-- the title with the word `method` before that of a method
abbrev pub whole_title : List (List ℕ) → List ClassRec → Code → List ℕ
whole_title names classes (code.Method info) = codes "method " ++ title_of names classes info.class info.meta info.selector
whole_title names classes (code.DoIt number source) = codes "doit " ++ decimal (number + 1)

-- whether it is the user's
abbrev pub is_users : Code → Bool
is_users (code.Method info) = not info.kernel
is_users (code.DoIt number source) = true

-- a part stands there in its source
abbrev pub StandsThere : Code → Part → Span → Type 0
StandsThere (code.Method info) part span = OfMethod info.source.now (λ s. span_of_part s part ≡ Some span)
StandsThere (code.DoIt number source) part span = OfDoIt source.now (λ s. span_of_part s part ≡ Some span)

-- so in the user's code
abbrev pub IsUsersPart : Code → Part → Span → Type 0
IsUsersPart c part span = (is_users c ≡ true) × StandsThere c part span

-- What the line of a part begins with: of the user's the title and the offsets, and of the kernel's the method alone.
pub data IsStart (names : List (List ℕ)) (classes : List ClassRec) (c : Code) (part : Part) (text : List ℕ) : Type 0 where
  users_start : (span : Span) → is_users c ≡ true → StandsThere c part span → text ≡ code_title names classes c ++ codes " " ++ decimal span.from ++ codes " " ++ decimal span.to → IsStart names classes c part text
  kernel_start : is_users c ≡ false → text ≡ whole_title names classes c → IsStart names classes c part text
