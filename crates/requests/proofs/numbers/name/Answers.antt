use Rattle.definition.specs.Request.{ascii}
use Rattle.requests.proofs.numbers.name.Goals as goal

pub returns-in-BusTxglom : goal.returns-in-BusTxglom
unfolding ascii
returns-in-BusTxglom c = rw c.in-BusTxglom.is

pub returns-in-Apsta : goal.returns-in-Apsta
unfolding ascii
returns-in-Apsta c = rw c.in-Apsta.is

pub returns-in-AmpduBaWsize : goal.returns-in-AmpduBaWsize
unfolding ascii
returns-in-AmpduBaWsize c = rw c.in-AmpduBaWsize.is

pub returns-in-AmpduMpdu : goal.returns-in-AmpduMpdu
unfolding ascii
returns-in-AmpduMpdu c = rw c.in-AmpduMpdu.is

pub returns-in-AmpduRxFactor : goal.returns-in-AmpduRxFactor
unfolding ascii
returns-in-AmpduRxFactor c = rw c.in-AmpduRxFactor.is

pub returns-in-SupWpa : goal.returns-in-SupWpa
unfolding ascii
returns-in-SupWpa c = rw c.in-SupWpa.is

pub returns-in-SupWpa2Eapver : goal.returns-in-SupWpa2Eapver
unfolding ascii
returns-in-SupWpa2Eapver c = rw c.in-SupWpa2Eapver.is

pub returns-in-SupWpaTmo : goal.returns-in-SupWpaTmo
unfolding ascii
returns-in-SupWpaTmo c = rw c.in-SupWpaTmo.is

pub returns-in-Mfp : goal.returns-in-Mfp
unfolding ascii
returns-in-Mfp c = rw c.in-Mfp.is

pub returns-in-Gpioout : goal.returns-in-Gpioout
unfolding ascii
returns-in-Gpioout c = rw c.in-Gpioout.is
