use Rattle.send_points.proofs.waits.Goals as goal

pub returns : goal.returns
returns c = λ h. rw (← c.unpolled.ensures) (c.asks.ensures h)
