-- What a call has to do with files, and how a file is refused.
use Rattle.std.specs.Prelude.{◌≡◌, ℕ, ◌+◌, ◌<◌, ◌≤◌, ◌⊎◌, List, [], ◌∷◌, ◌++◌, length, codes}
use Rattle.std.specs.List.{AllByRecursion}
use Rattle.rb_base.specs.Outside.{Told, Untold, NoFile, File, MayGive, IsNoFile, OnFile, Rose, RoseBy}
use Rattle.image_forms.specs.declared.status.Status.{Status}
use Rattle.image_forms.specs.declared.status.Status.TheVariants as status

-- The outside, from the start of a call to its end: what is told of files, how often reads failed, and how many bytes were taken.
pub record World : Type 0 where
  pub told : List ℕ → Told
  pub faults_before : ℕ
  pub faults_after : ℕ
  pub taken_before : ℕ
  pub taken_after : ℕ

-- what a call had to do with a shelf that was old and is new
abbrev pub world : {F : Type 0} → (F → List ℕ → Told) → (F → ℕ) → (F → ℕ) → F → F → World
world told faults taken old new = record { told = told old; faults_before = faults old; faults_after = faults new; taken_before = taken old; taken_after = taken new }

-- A load of the name may fail: it is told that there is no file, or the count of faults rose.
abbrev pub MayFail : World → List ℕ → Type 0
MayFail w name = IsNoFile (w.told name) ⊎ Rose w.faults_before w.faults_after

-- A load of the name may find too much: the file is longer than the limit, where it is told, and more than the limit was taken.
abbrev pub MayBeTooLarge : World → List ℕ → ℕ → Type 0
MayBeTooLarge w name limit = OnFile (w.told name) (λ file. limit < length file) × RoseBy (limit + 1) w.taken_before w.taken_after

-- the text and a line feed
abbrev pub line : List ℕ → List ℕ
line text = text ++ 10 ∷ []

abbrev pub cannot_read : List ℕ → List ℕ
cannot_read name = line (codes "cannot read " ++ name)

abbrev pub too_large : List ℕ → List ℕ
too_large name = line (codes "too large " ++ name)

-- the refusal of a file that is not read or too large
abbrev pub Refuses : World → List ℕ → ℕ → Status → List ℕ → Type 0
Refuses w name limit s sent = (MayFail w name × (s ≡ status.Read) × (sent ≡ cannot_read name)) ⊎ (MayBeTooLarge w name limit × (s ≡ status.TooLarge) × (sent ≡ too_large name))

-- A file is loaded: the answer is a refusal, or what follows from the bytes.
pub data Loads (w : World) (name : List ℕ) (limit : ℕ) (s : Status) (sent : List ℕ) (next : List ℕ → Type 0) : Type 0 where
  Given : (bytes : List ℕ) → MayGive (w.told name) limit bytes → next bytes → Loads w name limit s sent next
  Refused : Refuses w name limit s sent → Loads w name limit s sent next

-- the part w of what the whole had to do with the shelf
pub record Within (w whole : World) : Type 0 where
  pub told : w.told ≡ whole.told
  pub faults_before : whole.faults_before ≤ w.faults_before
  pub faults_after : w.faults_after ≤ whole.faults_after
  pub taken_before : whole.taken_before ≤ w.taken_before
  pub taken_after : w.taken_after ≤ whole.taken_after

abbrev pub IsTold : Told → Type 0
IsTold Untold = ⊥
IsTold NoFile = Unit {0}
IsTold (File bytes) = Unit {0}

-- The outside tells of each of these files, and no read failed.
pub record IsHonest (w : World) (files : List (List ℕ)) : Type 0 where
  pub told : AllByRecursion (λ name. IsTold (w.told name)) files
  pub fine : ¬ Rose w.faults_before w.faults_after
