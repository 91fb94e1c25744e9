use Rattle.cyw43.proofs.frames.get_rx_buf.Goals as goal

pub returns : goal.returns
returns c = λ rec log. rw c.with_list.ensures (c.take.ensures rec log c.args.list)
