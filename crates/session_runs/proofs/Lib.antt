mod Courses
