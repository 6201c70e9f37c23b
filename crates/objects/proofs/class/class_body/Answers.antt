use Rattle.rules.specs.Layouts as layouts
use Rattle.objects.proofs.class.class_body.Goals as goal

pub returns-in-Keys : goal.returns-in-Keys
unfolding layouts.class
returns-in-Keys c = rw c.in-Keys.is c.sequence.ensures

pub returns-in-Certificates : goal.returns-in-Certificates
unfolding layouts.class
returns-in-Certificates c = rw c.in-Certificates.is c.sequence-in-Certificates.ensures

pub returns-in-Authentications : goal.returns-in-Authentications
unfolding layouts.class
returns-in-Authentications c = rw c.in-Authentications.is c.sequence-in-Authentications.ensures
