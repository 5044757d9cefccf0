-- What a chunk becomes by what it says.
use Rattle.std.proofs.Common.{◌≡◌, ℕ, Bool, false, List, Option, Some, refl, ap}
use Rattle.std.specs.Borrow.{Bor}
use Rattle.std.specs.Option.{option_map_or}
use Rattle.token_model.specs.declared.kind.Dialect.TheVariants.{Second}
use Rattle.tree_model.specs.Tree.{SequenceOf}
use Rattle.chunk_format.specs.Chunks.{Piece}
use Rattle.file_model.specs.Filing.{Text}
use Rattle.file_model.specs.Forms.{Replacement, replacement_in, form_of}
use Rattle.chunk_forms.specs.declared.form.ChunkForm.{ChunkForm}
use Rattle.chunk_forms.specs.declared.form.ChunkForm.TheVariants as form
use Rattle.chunk_forms.specs.Told.{form_text}
use Rattle.import_model.specs.Steps.{Outside, kept, said, spelled}

-- a chunk that replaces a do-it
pub replaced : (p : Piece) (b : SequenceOf Text) (r : Replacement) → Some r ≡ replacement_in b → kept p Outside ≡ spelled p b
replaced p b r e = ap (λ (o : Option Replacement). option_map_or (λ (q : Replacement). kept p Outside) o (said p b (form_of Second false b))) e

-- a chunk that is neither refused nor opens a run
pub otherwise_said : (p : Piece) (b : SequenceOf Text) (names : List Text) (x : ChunkForm) → (x ≡ form.HasPools → ⊥) → (x ≡ form.IsUnknown → ⊥)
    → ((class : ℕ) (meta : Bool) (protocol : Bor (List ℕ)) → x ≡ form.Opens class meta protocol → ⊥) → ((class : ℕ) (meta : Bool) (protocol : Bor (List ℕ)) (place : ℕ) → x ≡ form.OpensAt class meta protocol place → ⊥)
    → kept p Outside ≡ said p b (form_text names x)
otherwise_said p b names form.Evaluates n m o q = refl
otherwise_said p b names (form.Defines d) n m o q = refl
otherwise_said p b names (form.DefinesAt d k) n m o q = refl
otherwise_said p b names (form.Comments class text) n m o q = refl
otherwise_said p b names (form.SetsClassSide class vars) n m o q = refl
otherwise_said p b names (form.Opens class meta protocol) n m o q = absurd (o class meta protocol refl)
otherwise_said p b names (form.OpensAt class meta protocol place) n m o q = absurd (q class meta protocol place refl)
otherwise_said p b names form.Settles n m o q = refl
otherwise_said p b names (form.RemovesMethod class meta selector) n m o q = refl
otherwise_said p b names (form.RemovesClass name) n m o q = refl
otherwise_said p b names form.HasPools n m o q = absurd (n refl)
otherwise_said p b names form.IsUnknown n m o q = absurd (m refl)
