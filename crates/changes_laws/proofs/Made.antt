-- What is promised where `changes` is done, or a command is refused.
use Rattle.std.proofs.Common.{◌≡◌, ◌++◌, List, [], Option, None, Result, Ok, refl, sym, ap, subst, ◌∙◌}
use Rattle.token_model.specs.declared.kind.Dialect.TheVariants.{Second}
use Rattle.chunk_format.specs.declared.chunk_iter.Unended.{Unended}
use Rattle.chunk_format.specs.Left.{start_of}
use Rattle.chunk_format.specs.Chunks.{Piece, HasChunks}
use Rattle.st_kernel.specs.KernelText.{prelude_text}
use Rattle.image_model.specs.Image.{ImageOf}
use Rattle.file_model.specs.Causes.{Refusal as ImageRefusal}
use Rattle.file_model.specs.Reading.{IsImageOf}
use Rattle.file_model.specs.Written.{file_of}
use Rattle.file_rereading.specs.Rereading.{IsWithinLimits}
use Rattle.history_model.proofs.Parts.{refused-at}
use Rattle.ruled_model.specs.RuledScripts.{Line, History, Refusal, ruled, ruled_verdict}
use Rattle.script_model.specs.Makers.{Text}
use Rattle.script_model.specs.Scripts.{Says}
use Rattle.apply_model.specs.declared.status.Status.{Status}
use Rattle.apply_model.specs.declared.status.Status.TheVariants as status
use Rattle.apply_model.specs.Applied as model
use Rattle.apply_laws.specs.FileOuts.{IsValidFileOut}
use Rattle.apply_laws.specs.Promised.{IsRefusalOf}
use Rattle.change_model.specs.Text.{change_text}
use Rattle.change_class_laws.specs.Named.{HoldsDifferences}
use Rattle.change_file_laws.specs.Other.{IsOtherOf}
use Rattle.changes_model.specs.Changes.{ChangesIn, NoScript, Refused, Accepted, Changes, NoImage, InImage}
use Rattle.changes_laws.specs.ChangeFiles.{IsChangeFile}

-- what the laws below say of one text and one script
pub record Laws (text script : Text) : Type 0 where
  pub one_image : (j k : ImageOf Text) → IsImageOf Second prelude_text text j → IsImageOf Second prelude_text text k → j ≡ k
  pub one_reading : (rs qs : List Line) → Says script rs → Says script qs → rs ≡ qs
  pub applied : (image_line : ImageRefusal → Text) (s : Status) (sent : Text) → model.Applies image_line text script s sent → s ≡ status.Done → IsValidFileOut text script sent
  pub other : (printed : Text) → (o : IsValidFileOut text script printed) → IsWithinLimits o.changed.history.now.image → IsOtherOf o.changed.is_image.kernel o.changed.image o.changed.history.now.image
  pub made : (printed : Text) → (o : IsValidFileOut text script printed) → IsOtherOf o.changed.is_image.kernel o.changed.image o.changed.history.now.image
      → IsImageOf Second prelude_text (text ++ change_text o.changed.image o.changed.history.now.image) o.changed.history.now.image
  pub named : (printed : Text) → (o : IsValidFileOut text script printed) → IsOtherOf o.changed.is_image.kernel o.changed.image o.changed.history.now.image
      → (pieces : List Piece) (end : Option Unended) → HasChunks (start_of (change_text o.changed.image o.changed.history.now.image)) pieces end
      → (end ≡ None) × HoldsDifferences o.changed.image o.changed.history.now.image pieces

module _ (text script : Text) (laws : Laws text script) where
  -- from the file that `apply` prints
  from-printed : (printed sent : Text) → ((image_line : ImageRefusal → Text) → model.Applies image_line text script status.Done printed) → (o : IsValidFileOut text script printed)
      → sent ≡ change_text o.changed.image o.changed.history.now.image → IsChangeFile text script sent
  from-printed printed sent applies o file = record {
    printed = printed;
    applies = applies;
    out = o;
    file = file;
    read = λ within. subst (λ (t : Text). IsImageOf Second prelude_text (text ++ t) o.changed.history.now.image) (sym file) (laws.made printed o (laws.other printed o within));
    names = λ within pieces end has. laws.named printed o (laws.other printed o within) pieces end (subst (λ (t : Text). HasChunks (start_of t) pieces end) file has);
  }

  -- the image and the history are those of the changed file
  in-history : (i : ImageOf Text) (rs : List Line) (h : History) (sent : Text) → IsImageOf Second prelude_text text i → Says script rs → ruled_verdict i rs ≡ Ok h → sent ≡ change_text i h.now.image → IsChangeFile text script sent
  in-history i rs h sent is says v file =
      let applies : (image_line : ImageRefusal → Text) → model.Applies image_line text script status.Done (file_of h.now.image) = λ image_line. model.InImage i is (model.Accepted rs h says v refl refl) in
      let o = laws.applied (λ r. []) status.Done (file_of h.now.image) (applies (λ r. [])) refl in
      let same : i ≡ o.changed.image = laws.one_image i o.changed.image is o.changed.is_image in
      let histories : ◌≡◌ {A = Result History Refusal} (Ok h) (Ok o.changed.history) =
      sym v ∙ ap (λ (j : ImageOf Text). ruled_verdict j rs) same ∙ ap (ruled_verdict o.changed.image) (laws.one_reading rs o.changed.requests says o.changed.says) ∙ o.changed.accepted in
      let one : h ≡ o.changed.history = cc in
      from-printed (file_of h.now.image) sent applies o
      (file ∙ ap (λ (j : ImageOf Text). change_text j h.now.image) same ∙ ap (λ (g : History). change_text o.changed.image g.now.image) one)

  done-in : (i : ImageOf Text) (s : Status) (sent : Text) → IsImageOf Second prelude_text text i → ChangesIn i script s sent → s ≡ status.Done → IsChangeFile text script sent
  done-in i s sent is (NoScript n cause refused a b) e = absurd (cc)
  done-in i s sent is (Refused rs r says v a b) e = absurd (cc)
  done-in i s sent is (Accepted rs h says v a b) e = in-history i rs h sent is says v b

  pub done : (image_line : ImageRefusal → Text) (s : Status) (sent : Text) → Changes image_line text script s sent → s ≡ status.Done → IsChangeFile text script sent
  done image_line s sent (NoImage r refused a b) e = absurd (cc)
  done image_line s sent (InImage i is a) e = done-in i s sent is a e

-- a command that is refused
condition-in : (text script : Text) (i : ImageOf Text) (s : Status) (sent : Text) → IsImageOf Second prelude_text text i → ChangesIn i script s sent → s ≡ status.Condition → IsRefusalOf text script sent
condition-in text script i s sent is (NoScript n cause refused a b) e = absurd (cc)
condition-in text script i s sent is (Accepted rs h says v a b) e = absurd (cc)
condition-in text script i s sent is (Refused rs r says v a b) e =
    record { image = i; is_image = is; requests = rs; says = says; refusal = r; at = refused-at ruled i rs r v; file = b }

pub condition : (image_line : ImageRefusal → Text) (text script : Text) (s : Status) (sent : Text) → Changes image_line text script s sent → s ≡ status.Condition → IsRefusalOf text script sent
condition image_line text script s sent (NoImage r refused a b) e = absurd (cc)
condition image_line text script s sent (InImage i is a) e = condition-in text script i s sent is a e
