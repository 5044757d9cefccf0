-- Texts of scripts that end with commands and as many undos, or with undos and as many redos.
use Rattle.std.proofs.Common.{◌≡◌, ℕ, List, ◌++◌, map, length, Ok, refl, sym, ap, ◌∙◌}
use Rattle.std.specs.Prelude.{replicate}
use Rattle.image_model.specs.Image.{ImageOf}
use Rattle.file_model.specs.Written.{file_of}
use Rattle.history_model.specs.Rules.{Perform, Undo, Redo}
use Rattle.history_model.specs.History.{VersionOf}
use Rattle.run_model.specs.Renamings.{Renaming}
use Rattle.ruled_model.specs.RuledScripts.{Asked, Line, History, ruled, ruled_verdict}
use Rattle.script_model.specs.Scripts.{Says}
use Rattle.apply_model.specs.declared.status.Status as applied
use Rattle.apply_model.specs.declared.status.Status.TheVariants as verdict
use Rattle.apply_model.specs.Applied.{AppliesIn, NoScript, Refused, Accepted}
use Rattle.apply_model.specs.Applied as model
use Rattle.image_forms.specs.declared.status.Status.TheVariants as status
use Rattle.image_forms.specs.ImageLines.{image_refusal}
use Rattle.image_forms.specs.Answers.{Applies, status_applied}
use Rattle.browse_laws.proofs.Ends.{IsAcceptedSo, undo-end, redo-end}

-- a script asks for one list of commands
abbrev pub SaysOnce : Type 0
SaysOnce = (text : List ℕ) (requests others : List Line) → Says text requests → Says text others → requests ≡ others

module _ (says_once : SaysOnce) (text script longer sent : List ℕ) (requests more : List Line) (says : Says script requests) (says_more : Says longer (requests ++ more))
    (end : (i : ImageOf (List ℕ)) (g : History) → ruled_verdict i (requests ++ more) ≡ Ok g → IsAcceptedSo ruled i requests g) where
  shorter : (i : ImageOf (List ℕ)) (said : List Line) (g : History) → Says longer said → ruled_verdict i said ≡ Ok g → sent ≡ file_of g.now.image → AppliesIn i script verdict.Done sent
  shorter i said g says_said accepted file =
      let same : said ≡ requests ++ more = says_once longer said (requests ++ more) says_said says_more in
      let so = end i g (sym (ap (ruled_verdict i) same) ∙ accepted) in
      Accepted requests so.history says so.accepted refl (file ∙ ap (λ (v : VersionOf (ImageOf (List ℕ)) Renaming). file_of v.image) so.now)

  in-image : (i : ImageOf (List ℕ)) (v : applied.Status) → status.Done ≡ status_applied v → AppliesIn i longer v sent → AppliesIn i script verdict.Done sent
  in-image i v done (NoScript n cause refused is line) = absurd (by (done ∙ ap status_applied is))
    where
      by : status.Done ≡ status.ScriptText → ⊥
      by e = cc
  in-image i v done (Refused said r says_said refused is line) = absurd (by (done ∙ ap status_applied is))
    where
      by : status.Done ≡ status.Condition → ⊥
      by e = cc
  in-image i v done (Accepted said g says_said accepted is file) = shorter i said g says_said accepted file

  in-texts : (v : applied.Status) → status.Done ≡ status_applied v → model.Applies image_refusal text longer v sent → model.Applies image_refusal text script verdict.Done sent
  in-texts v done (model.NoImage r refused is line) = absurd (by (done ∙ ap status_applied is))
    where
      by : status.Done ≡ status.ImageText → ⊥
      by e = cc
  in-texts v done (model.InImage i read a) = model.InImage i read (in-image i v done a)

  pub without-end : Applies text longer status.Done sent → Applies text script status.Done sent
  without-end a = record { verdict = verdict.Done; applies = in-texts a.verdict a.status a.applies; status = refl }

pub without-undos : SaysOnce → (text script longer sent : List ℕ) (requests : List Line) (actions : List Asked) → Says script requests →
    Says longer (requests ++ (map (λ a. Perform a) actions ++ replicate (length actions) Undo)) → Applies text longer status.Done sent → Applies text script status.Done sent
without-undos once text script longer sent requests actions says says_more =
    without-end once text script longer sent requests (map (λ a. Perform a) actions ++ replicate (length actions) Undo) says says_more (λ i g. undo-end ruled i requests actions g)

pub without-redos : SaysOnce → (text script longer sent : List ℕ) (requests : List Line) (n : ℕ) → Says script requests →
    Says longer (requests ++ (replicate n Undo ++ replicate n Redo)) → Applies text longer status.Done sent → Applies text script status.Done sent
without-redos once text script longer sent requests n says says_more =
    without-end once text script longer sent requests (replicate n Undo ++ replicate n Redo) says says_more (λ i g. redo-end ruled i requests n g)
