-- The images that commands made of the first one, and which of them is the present one.
use Rattle.std.specs.Prelude.{List, [], ◌∷◌, Result, Ok, Err}
use Rattle.std.specs.Option.{option_map_or}
use Rattle.history_model.specs.Rules.{RulesOf, RequestOf, Perform, Undo, Redo}

-- an image, and the renaming that leads to it from the first one
pub record VersionOf (I R : Type 0) : Type 0 where
  pub image : I
  pub renaming : R

-- the versions before the present one, that one, and those that were undone, the nearest to it first on both sides
pub record HistoryOf (I R : Type 0) : Type 0 where
  pub earlier : List (VersionOf I R)
  pub now : VersionOf I R
  pub later : List (VersionOf I R)

-- what is made of a value, or of an error
abbrev pub by_result : {A B E : Type 0} → (A → B) → (E → B) → Result A E → B
by_result f g (Ok a) = f a
by_result f g (Err e) = g e

module _ {I C X Q R : Type 0} (rules : RulesOf I C X Q R) where
  -- the history of an image with which nothing was done
  abbrev pub opened : I → HistoryOf I R
  opened i = record { earlier = []; now = record { image = i; renaming = rules.nothing }; later = [] }

  -- the version after a command that made this image
  abbrev pub version_after : VersionOf I R → C → I → VersionOf I R
  version_after v c j = record { image = j; renaming = rules.composed v.renaming (rules.renaming_of v.image c) }

  -- single commands in order, each judged in the image after those before it; the first one that is refused refuses all
  abbrev pub after_all : VersionOf I R → List C → Result (VersionOf I R) Q
  after_all v [] = Ok v
  after_all v (c ∷ cs) = by_result (λ j. after_all (version_after v c j) cs) (λ q. Err q) (rules.judged v.image c)

  -- an action in a version: its own conditions first, and then its steps
  abbrev pub after_action : VersionOf I R → X → Result (VersionOf I R) Q
  after_action v x = option_map_or (λ q. Err q) (rules.first_false v.image x) (after_all v (rules.steps_of v.image x))

  -- one more version behind the present one; what was undone is gone
  abbrev pub appended : HistoryOf I R → VersionOf I R → HistoryOf I R
  appended h v = record { earlier = h.now ∷ h.earlier; now = v; later = [] }

  -- the history after an action, which is one version whatever its steps are
  abbrev pub performed : HistoryOf I R → X → Result (HistoryOf I R) Q
  performed h x = by_result (λ v. Ok (appended h v)) (λ q. Err q) (after_action h.now x)

  -- the version before is the present one
  abbrev pub undone : HistoryOf I R → Result (HistoryOf I R) Q
  undone h = by h.earlier
    where
      by : List (VersionOf I R) → Result (HistoryOf I R) Q
      by [] = Err rules.undo_left
      by (v ∷ vs) = Ok (record { earlier = vs; now = v; later = h.now ∷ h.later })

  -- the version that was undone last is the present one
  abbrev pub redone : HistoryOf I R → Result (HistoryOf I R) Q
  redone h = by h.later
    where
      by : List (VersionOf I R) → Result (HistoryOf I R) Q
      by [] = Err rules.redo_left
      by (v ∷ vs) = Ok (record { earlier = h.now ∷ h.earlier; now = v; later = vs })

  -- the history after one command of a script, or the condition that refuses it
  abbrev pub stepped : HistoryOf I R → RequestOf X → Result (HistoryOf I R) Q
  stepped h (Perform x) = performed h x
  stepped h Undo = undone h
  stepped h Redo = redone h
