use Rattle.run_end.proofs.report_of.Goals as goal

pub returns-in-None : goal.returns-in-None
returns-in-None c = rw c.in-None.is c.unfailed.ensures

pub returns-in-Rx : goal.returns-in-Rx
returns-in-Rx c = rw c.in-Rx.is c.unfailed-in-Rx.ensures

pub returns-in-ConnectFailed : goal.returns-in-ConnectFailed
returns-in-ConnectFailed c = rw c.in-ConnectFailed.is c.failed_join.ensures
