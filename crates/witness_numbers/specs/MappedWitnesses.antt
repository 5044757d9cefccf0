-- Witnesses with each name changed.
use Rattle.image_model.specs.Image.{map_entry}
use Rattle.image_model.specs.Means.{map_meaning}
use Rattle.refusal_witnesses.specs.Witnesses.{OwnerOf, AtPlace, InMethod, WitnessOf, APart, AWhole, AClass, ASelector, AStep, TwoMeanings}

-- the same method, or the same place
abbrev pub map_owner : {M N : Type 0} → (M → N) → OwnerOf M → OwnerOf N
map_owner f (AtPlace place) = AtPlace place
map_owner f (InMethod m) = InMethod (map_entry f m)

-- the same witness
abbrev pub map_witness : {M N : Type 0} → (M → N) → WitnessOf M → WitnessOf N
map_witness f (APart owner part) = APart (map_owner f owner) part
map_witness f (AWhole owner) = AWhole (map_owner f owner)
map_witness f (AClass c) = AClass (f c)
map_witness f (ASelector s) = ASelector (f s)
map_witness f (AStep k) = AStep k
map_witness f (TwoMeanings owner path n one other) = TwoMeanings (map_owner f owner) path (f n) (map_meaning f one) (map_meaning f other)
