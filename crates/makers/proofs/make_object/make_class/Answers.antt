use Rattle.rules.specs.Layouts as layouts
use Rattle.makers.proofs.make_object.make_class.Goals as goal

pub returns-in-Keys : goal.returns-in-Keys
unfolding layouts.class
returns-in-Keys c = rw c.in-Keys.is c.make_sequence.ensures

pub returns-in-Certificates : goal.returns-in-Certificates
unfolding layouts.class
returns-in-Certificates c = rw c.in-Certificates.is c.make_sequence-in-Certificates.ensures

pub returns-in-Authentications : goal.returns-in-Authentications
unfolding layouts.class
returns-in-Authentications c = rw c.in-Authentications.is c.make_sequence-in-Authentications.ensures

pub returns-in-Containers : goal.returns-in-Containers
unfolding layouts.class
returns-in-Containers c = rw c.in-Containers.is c.make_keep.ensures
