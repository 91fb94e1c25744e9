pub mod PollNow
