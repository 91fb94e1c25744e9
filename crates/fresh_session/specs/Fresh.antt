-- What the first call finds.
use Rattle.wlan.specs.State.{fresh}
use Rattle.definition.specs.Player.{empty_list}
use Rattle.session_bytes.specs.declared.session.Session.{Session}

abbrev pub fresh_session : Session
fresh_session = record { st = fresh; list = empty_list }
