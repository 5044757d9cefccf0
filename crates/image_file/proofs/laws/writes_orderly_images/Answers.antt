use Rattle.image_file.proofs.laws.writes_orderly_images.Goals as goal

pub returns : goal.returns
returns c = λ s o. record { names = o.names_known.classes; superclasses = o.superclasses_live; method_classes = o.method_classes_live }
