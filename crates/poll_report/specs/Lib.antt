pub mod PollReport
