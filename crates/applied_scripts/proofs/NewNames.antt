-- An image to whose names further ones are added.
use Rattle.std.proofs.Common.{◌≡◌, [], ◌++◌, subst, sym, ap, ◌∙◌}
use Rattle.std.proofs.lemmas.List.{append-nil}
use Rattle.rb_base.specs.Names.{HasNoTwice}
use Rattle.event_trees.specs.Naming.{Grows}
use Rattle.class_table.specs.Slots.{Slots}
use Rattle.class_table.specs.View.{image_of}
use Rattle.class_table.specs.Valid.{IsOrderly}
use Rattle.live_slots.specs.Live.{AllLive}
use Rattle.wider_slots.specs.Closed.{IsClosed}
use Rattle.wider_slots.specs.Wider.{More, widened}
use Rattle.wider_slots.proofs.Opened.{orderly-closed, more-closed}
use Rattle.wider_slots.proofs.Images.{image-still}
use Rattle.wider_slots.proofs.Orderly.{orderly-wider}

module _ (s t : Slots) (o : IsOrderly s) (live : AllLive s) (rest : t ≡ record s { names = t.names }) (grows : Grows s.names t.names) (once : HasNoTwice t.names) where
  -- the further names
  abbrev more : More
  more = record { names = grows.more; classes = []; methods = [] }

  is-wider : t ≡ widened more s
  is-wider =
      rest
      ∙ (λ i. record s { names = grows.grown i })
      ∙ (λ i. record s { names = s.names ++ grows.more; classes = sym (append-nil s.classes) i; methods = sym (append-nil s.methods) i })

  before-closed : IsClosed s
  before-closed = orderly-closed s o live

  still-closed : IsClosed (widened more s)
  still-closed = more-closed more s before-closed (record { names = subst HasNoTwice grows.grown once; classes = tt; methods = tt })

  pub named-closed : IsClosed t
  named-closed = subst IsClosed (sym is-wider) still-closed

  pub named-image : image_of t ≡ image_of s
  named-image = ap image_of is-wider ∙ image-still s before-closed more

  pub named-orderly : IsOrderly t
  named-orderly = orderly-wider s t (record { more = more; state = is-wider; closed = before-closed; still = named-closed }) o
