-- The commands of an action lead back and forth, and keep the names.
use Rattle.std.proofs.Common.{◌≡◌, ℕ, List, [], ◌∷◌, refl, sym, ap, subst, ◌∙◌}
use Rattle.run_model.specs.Renamings.{Renaming, composed}
use Rattle.class_table.specs.Slots.{Slots}
use Rattle.class_table.specs.Valid.{IsOrderly}
use Rattle.change_set.specs.declared.change.Change.{Change}
use Rattle.change_set.specs.Change.{applied}
use Rattle.change_set.specs.Changes.{all_applied, inverses, all_undone, inverses_undone, Undoes, Redoes}
use Rattle.change_set.proofs.Turns.{undoes, redoes}
use Rattle.wider_slots.proofs.Closing.{names-kept}
use Rattle.wider_slots.proofs.Logging.{applied-closed, undone-closed, inverses-fit, inverses_undone-fit}
use Rattle.wider_slots.specs.Closed.{IsClosed}
use Rattle.wider_slots.specs.Logs.{CanTakeBack, CanDoAgain}
use Rattle.session.specs.Log.{DoneCommand, taken_back, left_back, done_again, left_again, CanGoBack, CanGoForth, CommandsKnown}
use Rattle.session.specs.History.{renamed_by, renamed_back, renamed_forth}

-- the names stay
pub applied-names : (s : Slots) (cs : List Change) → (all_applied s cs).names ≡ s.names
applied-names s [] = refl
applied-names s (c ∷ cs) = applied-names (applied s c) cs ∙ names-kept s c

pub undone-names : (s : Slots) (cs : List Change) → (all_undone s cs).names ≡ s.names
undone-names s [] = refl
undone-names s (c ∷ cs) = names-kept (all_undone s cs) c ∙ undone-names s cs

pub again-names : (s : Slots) (ds : List DoneCommand) → (done_again s ds).names ≡ s.names
again-names s [] = refl
again-names s (d ∷ ds) = again-names (all_applied s d.changes) ds ∙ applied-names s d.changes

pub back-names : (s : Slots) (ds : List DoneCommand) → (taken_back s ds).names ≡ s.names
back-names s [] = refl
back-names s (d ∷ ds) = undone-names (taken_back s ds) d.changes ∙ back-names s ds

-- changes that are done again lead back, and those that are undone forth
pub again-leads : (s : Slots) (cs : List Change) → IsClosed s → CanDoAgain s cs → Undoes (all_applied s cs) (inverses s cs) s cs
again-leads s cs closed can = undoes s (all_applied s cs) cs (inverses s cs) closed.orders can.can refl refl

back-leads : (s : Slots) (cs : List Change) → IsClosed s → CanTakeBack s cs → Redoes (all_undone s cs) (inverses_undone s cs) s cs
back-leads s cs closed can = redoes s (all_undone s cs) cs (inverses_undone s cs) closed.orders can.can refl refl

pub again-closed : (s : Slots) (cs : List Change) → IsClosed s → CanDoAgain s cs → IsClosed (all_applied s cs)
again-closed s cs closed can = (applied-closed s cs [] closed can.can can.fit tt).closed

-- the changes that are left can be taken
pub again-can : (s : Slots) (cs : List Change) → IsClosed s → IsOrderly s → CanDoAgain s cs → CanTakeBack (all_applied s cs) (inverses s cs)
again-can s cs closed orderly can =
    let leads = again-leads s cs closed can in
    record { can = leads.can; fit = inverses-fit s cs closed can.can can.fit; orderly = subst IsOrderly (sym leads.image) orderly }

back-can : (s : Slots) (cs : List Change) → IsClosed s → IsOrderly s → CanTakeBack s cs → CanDoAgain (all_undone s cs) (inverses_undone s cs)
back-can s cs closed orderly can =
    let leads = back-leads s cs closed can in
    record { can = leads.can; fit = inverses_undone-fit s cs closed can.can can.fit; orderly = subst IsOrderly (sym leads.image) orderly }

-- commands that are undone lead forth
pub record WentBack (s : Slots) (ds : List DoneCommand) : Type 0 where
  pub closed : IsClosed (taken_back s ds)
  pub orderly : IsOrderly (taken_back s ds)
  pub can : CanGoForth (taken_back s ds) (left_back s ds)
  pub slots : done_again (taken_back s ds) (left_back s ds) ≡ s
  pub left : left_again (taken_back s ds) (left_back s ds) ≡ ds

pub went-back : (s : Slots) (ds : List DoneCommand) → IsClosed s → IsOrderly s → CanGoBack s ds → WentBack s ds
went-back s [] closed orderly can = record { closed = closed; orderly = orderly; can = tt; slots = refl; left = refl }
went-back s (d ∷ ds) closed orderly can =
    let rest = went-back s ds closed orderly can.0 in
    let u : Slots = taken_back s ds in
    let l : List DoneCommand = left_back s ds in
    let leads = back-leads u d.changes rest.closed can.1 in
    record {
      closed = (undone-closed u d.changes [] rest.closed can.1.can can.1.fit tt).closed;
      orderly = can.1.orderly;
      can = (back-can u d.changes rest.closed rest.orderly can.1, subst (λ (z : Slots). CanGoForth z l) (sym leads.image) rest.can);
      slots = ap (λ (z : Slots). done_again z l) leads.image ∙ rest.slots;
      left = λ i. record d { changes = leads.changes i } ∷ (ap (λ (z : Slots). left_again z l) leads.image ∙ rest.left) i;
    }

-- commands that are done again lead back
pub record WentForth (s : Slots) (ds : List DoneCommand) : Type 0 where
  pub closed : IsClosed (done_again s ds)
  pub orderly : IsOrderly (done_again s ds)
  pub can : CanGoBack (done_again s ds) (left_again s ds)
  pub slots : taken_back (done_again s ds) (left_again s ds) ≡ s
  pub left : left_back (done_again s ds) (left_again s ds) ≡ ds

pub went-forth : (s : Slots) (ds : List DoneCommand) → IsClosed s → IsOrderly s → CanGoForth s ds → WentForth s ds
went-forth s [] closed orderly can = record { closed = closed; orderly = orderly; can = tt; slots = refl; left = refl }
went-forth s (d ∷ ds) closed orderly can =
    let leads = again-leads s d.changes closed can.0 in
    let rest = went-forth (all_applied s d.changes) ds (again-closed s d.changes closed can.0) can.0.orderly can.1 in
    let b : List Change = inverses s d.changes in
    record {
      closed = rest.closed;
      orderly = rest.orderly;
      can = (rest.can, subst (λ (z : Slots). CanTakeBack z b) (sym rest.slots) (again-can s d.changes closed orderly can.0));
      slots = ap (λ (z : Slots). all_undone z b) rest.slots ∙ leads.image;
      left = λ i. record d { changes = (ap (λ (z : Slots). inverses_undone z b) rest.slots ∙ leads.changes) i } ∷ rest.left i;
    }

-- the commands that are left rename what they renamed
pub back-known : (n : ℕ) (s : Slots) (ds : List DoneCommand) → CommandsKnown n ds → CommandsKnown n (left_back s ds)
back-known n s [] known = tt
back-known n s (d ∷ ds) known = (known.0, back-known n s ds known.1)

pub again-known : (n : ℕ) (s : Slots) (ds : List DoneCommand) → CommandsKnown n ds → CommandsKnown n (left_again s ds)
again-known n s [] known = tt
again-known n s (d ∷ ds) known = (known.0, again-known n (all_applied s d.changes) ds known.1)

-- and rename the same
pub renamed-again : (s : Slots) (ds : List DoneCommand) → IsClosed s → IsOrderly s → CanGoForth s ds → (r : Renaming) → renamed_back (done_again s ds) r (left_again s ds) ≡ renamed_forth s r ds
renamed-again s [] closed orderly can r = refl
renamed-again s (d ∷ ds) closed orderly can r =
    let whole = went-forth s (d ∷ ds) closed orderly can in
    let t : Slots = all_applied s d.changes in
    ap (λ (z : Slots). renamed_back (done_again t ds) (composed r (renamed_by z d)) (left_again t ds)) whole.slots
    ∙ renamed-again t ds (again-closed s d.changes closed can.0) can.0.orderly can.1 (composed r (renamed_by s d))

pub renamed-taken : (s : Slots) (ds : List DoneCommand) → IsClosed s → IsOrderly s → CanGoBack s ds → (r : Renaming) → renamed_forth (taken_back s ds) r (left_back s ds) ≡ renamed_back s r ds
renamed-taken s [] closed orderly can r = refl
renamed-taken s (d ∷ ds) closed orderly can r =
    let rest = went-back s ds closed orderly can.0 in
    let v : Slots = taken_back s (d ∷ ds) in
    ap (λ (z : Slots). renamed_forth z (composed r (renamed_by v d)) (left_back s ds)) (back-leads (taken_back s ds) d.changes rest.closed can.1).image
    ∙ renamed-taken s ds closed orderly can.0 (composed r (renamed_by v d))
